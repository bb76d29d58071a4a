-- Diagnostics as lines (this profile's own).
use Rattle.std.specs.Prelude.{ℕ, nat_le, ◌/◌, ◌%◌, ◌+◌, if◌then◌else◌, List, [], ◌∷◌, ◌++◌, codes, decimal, Option, Some}
use Rattle.std.specs.Prelude.{None}
use Rattle.std.specs.List.{flat_map}
use Rattle.std.specs.Str.{byte}
use Rattle.base.specs.Digits.{byte_digits, index_digits, identifier_digits}
use Rattle.base.specs.Lines.{line_feed}
use Rattle.diag_lines.specs.declared.code.Code.{Code}
use Rattle.diag_lines.specs.declared.subject.Subject.{Subject}
use Rattle.diag_lines.specs.declared.subject.Subject.TheVariants.{Cob, Default, Eds, Event, Limit, Message, Node, Param}
use Rattle.diag_lines.specs.declared.subject.Subject.TheVariants.{Receive, Rpdo, Tpdo}
use Rattle.diag_lines.specs.declared.diag.Diag.{Diag}
use Rattle.diag_lines.specs.Codes.{is_error, number_of}

-- E for an error, W for a warning, and the number in two digits
abbrev pub code_word : Code → List ℕ
code_word code = (if is_error code then byte "E" else byte "W") ∷ (byte "0" + number_of code / 10)
    ∷ (byte "0" + number_of code % 10) ∷ []

-- the sub-index of a subject that has one
abbrev pub sub_words : Option ℕ → List (List ℕ)
sub_words None = []
sub_words (Some sub) = byte_digits sub ∷ []

-- the words of a subject
unfoldable pub subject_words : Subject → List (List ℕ)
subject_words (Cob id) = codes "cob" ∷ identifier_digits id ∷ []
subject_words (Default node index sub) = codes "default" ∷ decimal node ∷ index_digits index ∷ byte_digits sub ∷ []
subject_words (Eds name line) = codes "eds" ∷ name ∷ decimal line ∷ []
subject_words (Event number) = codes "event" ∷ decimal number ∷ []
subject_words (Limit node index sub) = codes "limit" ∷ decimal node ∷ index_digits index ∷ byte_digits sub ∷ []
subject_words (Message name) = codes "message" ∷ name ∷ []
subject_words (Node node sub) = codes "node" ∷ decimal node ∷ sub_words sub
subject_words (Param node index sub) = codes "param" ∷ decimal node ∷ index_digits index ∷ byte_digits sub ∷ []
subject_words (Receive name node) = codes "receive" ∷ name ∷ decimal node ∷ []
subject_words (Rpdo node number) = codes "rpdo" ∷ decimal node ∷ decimal number ∷ []
subject_words (Tpdo node number) = codes "tpdo" ∷ decimal node ∷ decimal number ∷ []

-- a diagnostic: the code, and behind a space each the words of the subject
unfoldable pub diag_line : Diag → List ℕ
diag_line d = code_word d.code ++ flat_map (λ word. byte " " ∷ word) (subject_words d.subject)

-- all of them, each ended by LF
unfoldable pub diag_text : List Diag → List ℕ
diag_text ds = flat_map (λ d. diag_line d ++ line_feed ∷ []) ds
