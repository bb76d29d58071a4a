-- An EDS from handed lines: the lines of its text, and the device that it is the text of.
use Rattle.std.proofs.Common.{◌≡◌, ℕ, zero, suc, Bool, true, false, ◌==◌, ◌-◌, List, [], ◌∷◌, ◌++◌, map, take, length}
use Rattle.std.proofs.Common.{refl, ap, ◌∙◌, append_assoc, Err, Ok, nat_lt, if◌then◌else◌}
use Rattle.std.specs.Bool.{OnFalse}
use Rattle.std.specs.List.{list_any, suffix_len, onto_first}
use Rattle.std.proofs.lemmas.Bool.{or_from, or_parts, ltb-false}
use Rattle.std.proofs.lemmas.List.{length-map}
use Rattle.std.proofs.lemmas.List.Folds.{list_any-append}
use Rattle.base.specs.Blanks.{trim_end}
use Rattle.base.specs.Lines.{is_cr}
use Rattle.base.specs.Lines.{lines_of as text_lines}
use Rattle.ini_text.specs.Text as ini
use Rattle.ini_text.specs.Content.{Content, content_of}
use Rattle.eds_device.specs.Faults.{device_of}
use Rattle.eds_places.specs.declared.fault.DeviceFault.TheVariants as device
use Rattle.project_edits.specs.declared.fault.EditFault.{EditFault}
use Rattle.project_edits.specs.declared.fault.EditFault.TheVariants.{Limit}
use Rattle.project_edits.specs.declared.edit.Edit.TheVariants.{Eds}
use Rattle.project_edits.specs.Faults.{is_memory, device_verdict}
use Rattle.project_edits.specs.Forms.{is_name}
use Rattle.project_edits.specs.Eds.{text_line, text_of, is_bad_in_line, has_bad_line, has_long_line, has_too_many_entries}
use Rattle.project_edits.specs.Eds.{most_bytes, most_lines, eds_edit, IsEds}
use Rattle.project_edits.proofs.TextLemmas.{trim_end_again}

-- ---- lines of texts

-- an INI text has the lines of every text
pub same_lines : (text : List ℕ) → ini.lines_of text ≡ text_lines text
same_lines text = refl

-- a line as the text keeps it
abbrev pub kept : List ℕ → List ℕ
kept line = trim_end is_cr line

-- a byte that isn't among some isn't among the first of them
none_taken : (p : ℕ → Bool) (n : ℕ) (bs : List ℕ) → list_any p bs ≡ false → list_any p (take n bs) ≡ false
none_taken p zero bs h = refl
none_taken p (suc n) [] h = h
none_taken p (suc n) (b ∷ bs) h = let both = or_parts (p b) (list_any p bs) h in rw both.0 (none_taken p n bs both.1)

-- a line without bad bytes has none without its CRs
good_kept : (line : List ℕ) → list_any is_bad_in_line line ≡ false → list_any is_bad_in_line (kept line) ≡ false
good_kept line good = none_taken is_bad_in_line (length line - suffix_len is_cr line) line good

-- a byte that isn't bad is no LF
no_lf : (b : ℕ) → is_bad_in_line b ≡ false → (b == 10) ≡ false
no_lf b h = (or_parts (ini.is_bad_byte b) (b == 10) h).1

-- a line without bad bytes, ended by LF, is the first line
first_line : (line rest : List ℕ) → list_any is_bad_in_line line ≡ false
    → text_lines (line ++ 10 ∷ rest) ≡ line ∷ text_lines rest
unfolding text_lines
first_line [] rest h = refl
first_line (b ∷ line) rest h =
    let both = or_parts (is_bad_in_line b) (list_any is_bad_in_line line) h in
    rw (no_lf b both.0) (ap (onto_first b) (first_line line rest both.1))

-- the lines of the text are those that were handed over, without the CRs at their ends
lines_again : (lines : List (List ℕ)) → has_bad_line lines ≡ false → text_lines (text_of lines) ≡ map kept lines
unfolding text_lines
lines_again [] h = refl
lines_again (line ∷ lines) h =
    let both = or_parts (list_any is_bad_in_line line) (has_bad_line lines) h in
    ap text_lines (append_assoc (kept line) (10 ∷ []) (text_of lines))
    ∙ first_line (kept line) (text_of lines) (good_kept line both.0)
    ∙ ap (λ ls. kept line ∷ ls) (lines_again lines both.1)

-- they make the same text
text_again : (lines : List (List ℕ)) → text_of (map kept lines) ≡ text_of lines
text_again [] = refl
text_again (line ∷ lines) = rw (trim_end_again is_cr line, text_again lines) refl

-- and are as long
long_again : (lines : List (List ℕ)) → has_long_line (map kept lines) ≡ has_long_line lines
long_again [] = refl
long_again (line ∷ lines) = rw (trim_end_again is_cr line, long_again lines) refl

-- ---- bad bytes

-- a byte that a text may not have is bad in a line
good_byte : (b : ℕ) → is_bad_in_line b ≡ false → ini.is_bad_byte b ≡ false
good_byte b h = (or_parts (ini.is_bad_byte b) (b == 10) h).0

good_bytes : (line : List ℕ) → list_any is_bad_in_line line ≡ false → list_any ini.is_bad_byte line ≡ false
good_bytes [] h = refl
good_bytes (b ∷ line) h = let both = or_parts (is_bad_in_line b) (list_any is_bad_in_line line) h
    in rw (good_byte b both.0) (good_bytes line both.1)

-- a text has no bad byte where its lines have none
good_text : (lines : List (List ℕ)) → has_bad_line lines ≡ false → ini.has_bad_byte (text_of lines) ≡ false
good_text [] h = refl
good_text (line ∷ lines) h =
    let both = or_parts (list_any is_bad_in_line line) (has_bad_line lines) h in
    list_any-append ini.is_bad_byte (text_line line) (text_of lines)
    ∙ rw (list_any-append ini.is_bad_byte (kept line) (10 ∷ []), good_bytes (kept line) (good_kept line both.0))
    (good_text lines both.1)

-- a byte of a text but LF is good in a line
good_in_line : (b : ℕ) → ini.is_bad_byte b ≡ false → (b == 10) ≡ false → is_bad_in_line b ≡ false
good_in_line b h other = or_from (ini.is_bad_byte b) (b == 10) h other

-- the lines of a text have no bad byte where it has none
pub good_lines : (text : List ℕ) → ini.has_bad_byte text ≡ false → has_bad_line (text_lines text) ≡ false
unfolding text_lines
good_lines [] h = refl
good_lines (b ∷ text) h =
    let both = or_parts (ini.is_bad_byte b) (ini.has_bad_byte text) h in
    by (b == 10) refl both.0 (text_lines text) (good_lines text both.1)
  where
    by : (t : Bool) → (b == 10) ≡ t → ini.is_bad_byte b ≡ false → (ls : List (List ℕ)) → has_bad_line ls ≡ false
        → has_bad_line (if t then [] ∷ ls else onto_first b ls) ≡ false
    by true e good ls h = h
    by false e good [] h = rw (good_in_line b good e) refl
    by false e good (line ∷ ls) h = rw (good_in_line b good e) h

-- ---- the device

-- what a text that is read as a device has none of
pub device_parts : (text : List ℕ) (content : Content) → device_of text ≡ Ok content
    → (ini.is_out_of_range text ≡ false) × (ini.has_bad_byte text ≡ false) × (has_too_many_entries text ≡ false)
    × (content_of text ≡ content)
unfolding device_of has_too_many_entries
device_parts text content h = by (ini.is_out_of_range text) (ini.has_bad_byte text) (has_too_many_entries text) h
  where
    by : (out bad many : Bool)
        → (if out then Err device.Range else if bad then Err device.BadByte else if many then Err device.Limit
        else Ok (content_of text)) ≡ Ok content
        → (out ≡ false) × (bad ≡ false) × (many ≡ false) × (content_of text ≡ content)
    by true bad many h = cc
    by false true many h = cc
    by false false true h = cc
    by false false false h = (refl, refl, refl, cc)

-- a good name, and lines that have none of the faults but that of the entries
pub record Passes (name : List ℕ) (lines : List (List ℕ)) : Type 0 where
  pub named : is_name name ≡ true
  pub few : nat_lt most_lines (length lines) ≡ false
  pub short : has_long_line lines ≡ false
  pub within : nat_lt most_bytes (length (text_of lines)) ≡ false
  pub good : has_bad_line lines ≡ false

module _ (name : List ℕ) (lines : List (List ℕ)) (p : Passes name lines) where
  -- the text is one for a device, and the edit is that of the text, unless there are too many entries
  device_is : device_of (text_of lines) ≡ (if has_too_many_entries (text_of lines) then Err device.Limit
      else Ok (content_of (text_of lines)))
  unfolding device_of has_too_many_entries
  device_is =
      let short : list_any ini.is_long_line (ini.lines_of (text_of lines))
      ≡ false = rw (same_lines (text_of lines), lines_again lines p.good, long_again lines) p.short in
      rw (p.within, short, good_text lines p.good) refl

  edit_is : eds_edit name lines ≡ (if has_too_many_entries (text_of lines) then Err Limit
      else Ok (Eds name (text_of lines)))
  unfolding eds_edit
  edit_is = by (has_too_many_entries (text_of lines)) refl
    where
      by : (many : Bool) → has_too_many_entries (text_of lines) ≡ many
          → eds_edit name lines ≡ (if many then Err Limit else Ok (Eds name (text_of lines)))
      by true h = rw (p.named, p.few, p.short, p.within, p.good, h) refl
      by false h = rw (p.named, p.few, p.short, p.within, p.good, h) refl

  -- what keeps it from being a device keeps it from being an edit
  pub refused_so : (e : EditFault) → OnFalse (is_memory e) (device_verdict (device_of (text_of lines)) ≡ Err e)
      → OnFalse (is_memory e) (eds_edit name lines ≡ Err e)
  refused_so e h = rw edit_is (by (has_too_many_entries (text_of lines)) (is_memory e) e (rw device_is at h))
    where
      by : (many m : Bool) (e : EditFault)
          → OnFalse m (device_verdict (if many then Err device.Limit else Ok (content_of (text_of lines))) ≡ Err e)
          → OnFalse m ((if many then Err Limit else Ok (Eds name (text_of lines))) ≡ Err e)
      by many true e h = tt
      by true false e h = cc
      by false false e h = cc

  -- a device makes it an edit, which keeps to what each EDS does
  module _ (taken : device_verdict (device_of (text_of lines)) ≡ Ok tt) where
    few_entries : has_too_many_entries (text_of lines) ≡ false
    few_entries = by (has_too_many_entries (text_of lines)) (rw device_is at taken)
      where
        by : (many : Bool) → device_verdict (if many then Err device.Limit else Ok (content_of (text_of lines))) ≡ Ok tt
            → many ≡ false
        by true h = cc
        by false h = refl

    pub taken_so : eds_edit name lines ≡ Ok (Eds name (text_of lines))
    taken_so = edit_is ∙ rw few_entries refl

    pub is_eds : IsEds name (text_of lines)
    is_eds = record {
      name = p.named;
      lines = rw (lines_again lines p.good, length-map) (ltb-false most_lines (length lines) p.few);
      ended = ap text_of (lines_again lines p.good) ∙ text_again lines;
      device = device_is ∙ rw few_entries refl;
    }
