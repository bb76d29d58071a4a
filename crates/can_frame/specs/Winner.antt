-- Arbitration (ISO 11898-1): which waiting frame starts at an idle bus.
use Rattle.std.specs.Prelude.{◌≡◌, ℕ, nat_lt, ◌==◌, ◌&&◌, ◌||◌, Bool, false, if◌then◌else◌, List, [], ◌∷◌, map, All}
use Rattle.std.specs.Prelude.{Contains, slice_get, Option, Some, None}
use Rattle.std.specs.List.{enumerate_from, flat_map}
use Rattle.can_frame.specs.declared.contender.Contender.{Contender}
use Rattle.can_frame.specs.declared.waiting.Waiting.{Waiting}

-- the frames that wait at a sender contend by identifier, sender, and place in the sender's list
abbrev pub contenders_of : ℕ × List Waiting → List Contender
contenders_of list = map (λ e. record { id = e.1.frame.id; sender = list.0; place = e.0 }) (enumerate_from 0 list.1)

-- those of the lists of all senders
abbrev pub contenders : List (ℕ × List Waiting) → List Contender
contenders lists = flat_map contenders_of lists

-- a frame waits at a place of the list of a sender
abbrev pub WaitsAt : List (ℕ × List Waiting) → ℕ → ℕ → Waiting → Type 0
WaitsAt lists sender place w = (frames : List Waiting)
    × (Contains lists (sender, frames) × (slice_get frames place ≡ Some w))

-- one is below another by identifier, then sender, then place
abbrev pub is_below : Contender → Contender → Bool
is_below a b = nat_lt a.id b.id || (a.id == b.id)
    && (nat_lt a.sender b.sender || (a.sender == b.sender) && nat_lt a.place b.place)

-- a frame wins that no other is below; there is none where no frame waits
abbrev pub IsWinner : List Contender → Option Contender → Type 0
IsWinner cs None = cs ≡ []
IsWinner cs (Some c) = Contains cs c × All (λ d. is_below d c ≡ false) cs

-- the lower of two, where there are two
abbrev pub lower : Option Contender → Option Contender → Option Contender
lower None b = b
lower (Some a) None = Some a
lower (Some a) (Some b) = if is_below b a then Some b else Some a

-- the winner as a function
abbrev pub winner_of : List Contender → Option Contender
winner_of [] = None
winner_of (c ∷ cs) = lower (Some c) (winner_of cs)
