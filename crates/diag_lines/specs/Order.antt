-- The order of diagnostics (this profile's own): by the number of the code, then by the subject's words from left to
-- right, numbers as numbers, names by their bytes.
use Rattle.std.specs.Prelude.{ℕ, List, [], ◌∷◌, Option, Some, None, codes}
use Rattle.std.specs.declared.cmp.Ordering.{Ordering}
use Rattle.std.specs.declared.cmp.Ordering.TheVariants.{Less, Greater}
use Rattle.std.specs.Ordering.{nat_cmp, ordering_then}
use Rattle.std.specs.Cmp.Lexicographic.{slice_cmp}
use Rattle.diag_lines.specs.Codes.{number_of}
use Rattle.diag_lines.specs.declared.subject.Subject.{Subject}
use Rattle.diag_lines.specs.declared.subject.Subject.TheVariants.{Cob, Default, Eds, Event, Limit, Message, Node, Param}
use Rattle.diag_lines.specs.declared.subject.Subject.TheVariants.{Receive, Rpdo, Tpdo}
use Rattle.diag_lines.specs.declared.diag.Diag.{Diag}

-- a word of a subject
pub data Word : Type 0 where
  Name : List ℕ → Word
  Number : ℕ → Word

abbrev pub word_cmp : Word → Word → Ordering
word_cmp (Name a) (Name b) = slice_cmp nat_cmp a b
word_cmp (Name a) (Number n) = Less
word_cmp (Number m) (Name b) = Greater
word_cmp (Number m) (Number n) = nat_cmp m n

-- the sub-index of a subject that has one
abbrev pub word_of : Option ℕ → List Word
word_of None = []
word_of (Some sub) = Number sub ∷ []

-- the words of a subject
abbrev pub words_of : Subject → List Word
words_of (Cob id) = Name (codes "cob") ∷ Number id ∷ []
words_of (Default node index sub) = Name (codes "default") ∷ Number node ∷ Number index ∷ Number sub ∷ []
words_of (Eds name line) = Name (codes "eds") ∷ Name name ∷ Number line ∷ []
words_of (Event number) = Name (codes "event") ∷ Number number ∷ []
words_of (Limit node index sub) = Name (codes "limit") ∷ Number node ∷ Number index ∷ Number sub ∷ []
words_of (Message name) = Name (codes "message") ∷ Name name ∷ []
words_of (Node node sub) = Name (codes "node") ∷ Number node ∷ word_of sub
words_of (Param node index sub) = Name (codes "param") ∷ Number node ∷ Number index ∷ Number sub ∷ []
words_of (Receive name node) = Name (codes "receive") ∷ Name name ∷ Number node ∷ []
words_of (Rpdo node number) = Name (codes "rpdo") ∷ Number node ∷ Number number ∷ []
words_of (Tpdo node number) = Name (codes "tpdo") ∷ Number node ∷ Number number ∷ []

unfoldable pub diag_cmp : Diag → Diag → Ordering
diag_cmp a b = ordering_then (nat_cmp (number_of a.code) (number_of b.code))
    (slice_cmp word_cmp (words_of a.subject) (words_of b.subject))
