-- What a session has written, as replies.
use Rattle.std.specs.Prelude.{◌≡◌, ◌≢◌, ℕ, true, List, ◌++◌, Option, Result, Err, OnOk, IsErrOf}
use Rattle.std.specs.List.{concat}
use Rattle.std.specs.Io.KnownBytes.{Appends}
use Rattle.streams.specs.declared.fault.SessionFault.{SessionFault}
use Rattle.streams.specs.declared.fault.SessionFault.TheVariants.{Memory, Read, Write}
use Rattle.streams.specs.declared.outlet.Outlet.{Ghosts as Outlet}
use Rattle.streams.specs.Streams.{OneFailed}
use Rattle.streams.specs.Written.{Took, Posts}

-- these replies were written, and nothing else
abbrev pub WroteAll : Option (List ℕ) → Option (List ℕ) → List (List ℕ) → Type 0
WroteAll old new replies = Appends old new (concat replies)

-- the first of these replies were written, each whole
abbrev pub WroteFirst : Option (List ℕ) → Option (List ℕ) → List (List ℕ) → Type 0
WroteFirst old new replies = (first : List (List ℕ)) × (others : List (List ℕ)) × (replies ≡ first ++ others)
    × WroteAll old new first

-- what was written is a front of these replies
abbrev pub WroteFront : Option (List ℕ) → Option (List ℕ) → List (List ℕ) → Type 0
WroteFront old new replies = Took old new (concat replies)

-- these replies were written, and perhaps more
abbrev pub WroteAtLeast : Option (List ℕ) → Option (List ℕ) → List (List ℕ) → Type 0
WroteAtLeast old new replies = (more : List ℕ) × Appends old new (concat replies ++ more)

-- private: the first of these replies were posted, each whole
abbrev pub PostsFirst : Option (List ℕ) → List ℕ → Option (List ℕ) → List ℕ → List (List ℕ) → Type 0
PostsFirst old waited new waits replies = (first : List (List ℕ)) × (others : List (List ℕ))
    × (replies ≡ first ++ others) × Posts old waited new waits (concat first)

-- private: these replies are put out behind what waits, or a fault comes in place of that
pub record Puts {W X : Type 0} (outlet : Outlet W) (old : W) (waited : List ℕ) (new : W) (waits : List ℕ)
    (replies : List (List ℕ)) (result : Result X SessionFault) : Type 0 where
  -- all of them went out or wait
  pub ok : OnOk result (Posts (outlet.contents old) waited (outlet.contents new) waits (concat replies))
  -- where memory runs out, the first of them, each whole
  pub memory : IsErrOf result Memory → PostsFirst (outlet.contents old) waited (outlet.contents new) waits replies
  -- where writing stops, a front of what waited and of them went out
  pub write : IsErrOf result Write → OneFailed (outlet.failures old) (outlet.failures new)
      × Took (outlet.contents old) (outlet.contents new) (waited ++ concat replies)
  -- no failure is passed over
  pub quiet : result ≢ Err Write → outlet.failures new ≡ outlet.failures old
  -- but for Write, what was written has also been flushed
  pub flushed : result ≢ Err Write → outlet.flushed old ≡ true → outlet.flushed new ≡ true
  -- nothing is read
  pub never_read : result ≢ Err Read
