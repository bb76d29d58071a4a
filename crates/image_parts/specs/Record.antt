-- The record of what was handed out.
use Rattle.std.specs.Prelude.{◌≡◌, ◌≤◌, ◌+◌, ℕ, List, ◌++◌, length}
use Rattle.image_parts.specs.Asking.{Asking, Seen, after_reads, outcome, reads}

-- the list begins with this front
pub record BeginsWith {X : Type 0} (list front : List X) : Type 0 where
  pub more : List X
  pub is : list ≡ front ++ more

-- all that the computation reads was handed out and no more, and that many calls asked at most
pub record IsAsked {N V A : Type 0} (m : Asking N V A) (old new : Seen N V) (asks_old asks_new : ℕ) : Type 0 where
  pub noted : new ≡ after_reads m old
  pub counted : asks_new ≤ asks_old + length (reads m old.image)

-- THE CALL GOES BY A RULE: what it leaves is what the rule answers under the image, and all that the rule reads was
-- handed out and no more
pub record GoesBy {N V A X : Type 0} (rule : Asking N V A) (left : A) (seen : X → Seen N V) (asks : X → ℕ) (old new : X)
    : Type 0 where
  pub state : left ≡ outcome rule (seen old).image
  pub asked : IsAsked rule (seen old) (seen new) (asks old) (asks new)

-- whatever came of a call, the image is the same, and nothing that was handed out is forgotten
pub record Lasts {N V : Type 0} (old new : Seen N V) : Type 0 where
  pub kept : new.image ≡ old.image
  pub begins : BeginsWith new.asked old.asked
