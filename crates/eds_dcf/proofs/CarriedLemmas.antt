-- A DCF carries the parameters of its node: read as a device, it gives the same writes.
use Rattle.std.proofs.Common.{◌≡◌, ◌==◌, ℕ, zero, suc, ◌<◌, ◌≤◌, Bool, true, false, cond, List, [], ◌∷◌, length}
use Rattle.std.proofs.Common.{filter_map, reverse, Contains, IfSome, Option, None, Some, Result, Ok, Err, is_some}
use Rattle.std.proofs.Common.{option_map, option_and_then, refl, sym, ap, ◌∙◌, arith}
use Rattle.std.proofs.lemmas.Bool.{eq-eqb, false≢true}
use Rattle.std.proofs.lemmas.List.{reverse-append}
use Rattle.std.proofs.lemmas.List.Elements.{All-contains, All-contains_itself, All-weaker, recursion_from_All}
use Rattle.std.proofs.lemmas.List.Folds.{find-append}
use Rattle.std.proofs.lemmas.Option.{same_Some}
use Rattle.std.specs.List.{AllByRecursion, cons_option, find}
use Rattle.std.specs.Option.{option_map_or, option_or}
use Rattle.std.specs.Result.{result_ok}
use Rattle.concise_dcf.specs.declared.write.Write.{Write}
use Rattle.co_values.specs.Types.{is_modelled}
use Rattle.co_values.specs.Values.{text_of_value}
use Rattle.co_dict.specs.declared.entry.Entry.{Entry}
use Rattle.co_dict.specs.Accesses.{is_writable}
use Rattle.cia301.specs.PdoObjects.{is_of_pdos}
use Rattle.eds_device.specs.Described.{description_of, description_by, description_in, highest_sub, kind_at}
use Rattle.eds_device.specs.Described.{known_as, unless_empty, value_text}
use Rattle.eds_device.specs.Entries.{entry_at, entry_by}
use Rattle.eds_device.specs.Origins.{Origin, own, compact, origin_of}
use Rattle.eds_device.specs.Places.{pairs_of}
use Rattle.eds_device.specs.Sheets.{Sheet}
use Rattle.std.specs.FinMap.{empty, get-empty}
use Rattle.co_dict.specs.Places.{place_cmp}
use Rattle.node_parameters.specs.Params.{Texts}
use Rattle.node_parameters.proofs.JudgedLemmas.{judged_entry, judged_suits}
use Rattle.node_parameters.proofs.ParameterLemmas.{behind, kind_of_entry, writes_sized}
use Rattle.node_parameters.proofs.WrittenLemmas.{All-filter_map, Contains-filter_map}
use Rattle.node_parameters.specs.declared.parameter_fault.ParameterFault.{ParameterFault}
use Rattle.node_parameters.specs.Judgement.{Suits, parameter_bytes}
use Rattle.node_parameters.specs.Parameters.{parameter_text, parameter_write, parameter_writes, write_to}
use Rattle.concise_dcf.specs.Writes.{place_of}
use Rattle.eds_dcf.specs.Dcf.{dcf_sections, dcf_sheet}
use Rattle.eds_dcf.specs.Entries.{says_modelled}
use Rattle.eds_dcf.specs.Standing.{is_typed, section_in, value_that_stands}
use Rattle.eds_dcf.specs.Writes.{is_to, last_of}
use Rattle.eds_dcf.proofs.AgainLemmas.{printed_some, value_again}
use Rattle.eds_dcf.proofs.AlikeLemmas.{entry_same}
use Rattle.eds_dcf.proofs.EntryLemmas.{left_holds}
use Rattle.eds_dcf.proofs.WholeLemmas.{dcf_pairs, dcf_stands}

abbrev Params : Type 0
Params = Texts

-- ---- entries that may be written

module _ (sheet : Sheet) (node index sub : ℕ) where
  -- the section of an entry that may be written says its type
  typed_by : (o : Option Origin) (entry : Entry)
      → option_map (entry_by node) (option_map (λ origin. known_as sheet.is_three (description_by sub origin)) o)
      ≡ Some entry → is_modelled entry.kind ≡ true → is_writable entry.access ≡ true
      → option_map_or (λ origin. says_modelled sheet (section_in origin)) o false ≡ true
  typed_by None entry e modelled writable = absurd (cc)
  typed_by (Some (own s)) entry e modelled writable =
      let is : entry_by node (known_as sheet.is_three (description_in s)) ≡ entry = same_Some _ entry e in
      ap (λ (x : Entry). is_modelled x.kind) is ∙ modelled
  typed_by (Some (compact s n)) entry e modelled writable = by (sub == 0) (same_Some _ entry e)
    where
      by : (t : Bool) → entry_by node (known_as sheet.is_three (cond t (highest_sub n) (description_in s))) ≡ entry
          → says_modelled sheet s ≡ true
      by true is = absurd (false≢true (ap (λ (x : Entry). is_writable x.access) is ∙ writable))
      by false is = ap (λ (x : Entry). is_modelled x.kind) is ∙ modelled

  pub typed : (entry : Entry) → entry_at sheet node index sub ≡ Some entry → is_modelled entry.kind ≡ true
      → is_writable entry.access ≡ true → is_typed sheet (index, sub) ≡ true
  unfolding entry_at description_of is_typed
  typed entry e modelled writable = typed_by (origin_of sheet.sections index sub) entry e modelled writable

  -- so no text gives another entry bytes
  untyped : is_typed sheet (index, sub) ≡ false → (text : List ℕ)
      → result_ok (parameter_bytes (entry_at sheet node index sub) text node) ≡ None
  untyped h text = by (parameter_bytes (entry_at sheet node index sub) text node) refl
    where
      by : (r : Result (List ℕ) ParameterFault) → parameter_bytes (entry_at sheet node index sub) text node ≡ r
          → result_ok r ≡ None
      by (Ok bytes) e =
          let j = judged_entry (entry_at sheet node index sub) text bytes node e in
          absurd (false≢true (sym h ∙ typed j.0 j.1 j.2.modelled j.2.writable))
      by (Err fault) e = refl

-- ---- the last of the writes

some_or : (a b : Option Write) → is_some a ≡ true → is_some (option_or a b) ≡ true
some_or None b h = absurd (false≢true h)
some_or (Some w) b h = refl

or_some : (a : Option Write) (w : Write) → is_some (option_or a (Some w)) ≡ true
or_some None w = refl
or_some (Some v) w = refl

module _ (place : ℕ × ℕ) where
  -- where a write is to an entry there is a last one
  found_last : (ws : List Write) (w : Write) → Contains ws w → is_to place w ≡ true
      → is_some (find (is_to place) (reverse ws)) ≡ true
  found_last [] w (k, below, is) to = absurd (omega arith)
  found_last (v ∷ ws) w (zero, below, is) to =
      ap is_some (ap (find (is_to place)) (reverse-append (v ∷ []) ws)
      ∙ find-append (is_to place) (reverse ws) (v ∷ []))
      ∙ ap (λ t. is_some (option_or (find (is_to place) (reverse ws)) (cond t (Some v) None)))
      (ap (is_to place) is ∙ to)
      ∙ or_some (find (is_to place) (reverse ws)) v
  found_last (v ∷ ws) w (suc k, below, is) to =
      ap is_some (ap (find (is_to place)) (reverse-append (v ∷ []) ws)
      ∙ find-append (is_to place) (reverse ws) (v ∷ []))
      ∙ some_or (find (is_to place) (reverse ws)) (cond (is_to place v) (Some v) None)
      (found_last ws w (k, omega arith, is) to)

  some_bytes : (o : Option Write) → is_some o ≡ true → is_some (option_map (λ (w : Write). w.bytes) o) ≡ true
  some_bytes None h = h
  some_bytes (Some w) h = refl

  last_there : (ws : List Write) (w : Write) → Contains ws w → is_to place w ≡ true → is_some (last_of ws place) ≡ true
  unfolding last_of
  last_there ws w there to = some_bytes (find (is_to place) (reverse ws)) (found_last ws w there to)

module _ (sheet : Sheet) (params : Params) (node : ℕ) where
  -- a write is that of its own place
  own_write : (place : ℕ × ℕ) (w : Write) → parameter_write sheet params node place ≡ Some w
      → parameter_write sheet params node (w.index, w.sub) ≡ Some (write_to (w.index, w.sub) w.bytes)
  own_write place w e = let at : place_of w ≡ place = (behind sheet params node place w e).at_place
      in ap (parameter_write sheet params node) at ∙ e

  pub last_is : (place : ℕ × ℕ) → IfSome (last_of (parameter_writes sheet params node) place)
      (λ bytes. parameter_write sheet params node place ≡ Some (write_to place bytes))
  unfolding parameter_writes
  last_is place =
      left_holds (λ place bytes. parameter_write sheet params node place ≡ Some (write_to place bytes))
      (filter_map (parameter_write sheet params node) (pairs_of sheet.sections)) place
      (All-filter_map (parameter_write sheet params node)
      (λ w. parameter_write sheet params node (w.index, w.sub)
      ≡ Some (write_to (w.index, w.sub) w.bytes)) own_write (pairs_of sheet.sections))

  to_itself : (place : ℕ × ℕ) (w : Write) → place_of w ≡ place → is_to place w ≡ true
  to_itself place w at =
      let index = eq-eqb place.0 w.index (ap (λ (p : ℕ × ℕ). p.0) (sym at)) in
      let sub = eq-eqb place.1 w.sub (ap (λ (p : ℕ × ℕ). p.1) (sym at)) in
      rw (index, sub) refl

  is_there : (place : ℕ × ℕ) (w : Write) → Contains (pairs_of sheet.sections) place
      → parameter_write sheet params node place ≡ Some w
      → is_some (last_of (parameter_writes sheet params node) place) ≡ true
  unfolding parameter_writes
  is_there place w there e =
      last_there place (filter_map (parameter_write sheet params node)
      (pairs_of sheet.sections)) w
      (Contains-filter_map (parameter_write sheet params node) (pairs_of sheet.sections) place w there e)
      (to_itself place w (behind sheet params node place w e).at_place)

  -- the last write to an entry is its parameter's
  pub last_write : (place : ℕ × ℕ) (w : Write) → Contains (pairs_of sheet.sections) place
      → parameter_write sheet params node place ≡ Some w
      → last_of (parameter_writes sheet params node) place ≡ Some w.bytes
  last_write place w there e = by (last_of (parameter_writes sheet params node) place) (last_is place)
      (is_there place w there e)
    where
      by : (o : Option (List ℕ))
          → IfSome o (λ bytes. parameter_write sheet params node place ≡ Some (write_to place bytes)) → is_some o ≡ true
          → o ≡ Some w.bytes
      by None h some = absurd (false≢true some)
      by (Some bytes) h some = let is : write_to place bytes ≡ w = same_Some (write_to place bytes) w (sym h ∙ e)
          in ap (λ (v : Write). Some v.bytes) is

  pub no_last : (place : ℕ × ℕ) → parameter_write sheet params node place ≡ None
      → last_of (parameter_writes sheet params node) place ≡ None
  no_last place e = by (last_of (parameter_writes sheet params node) place) (last_is place)
    where
      by : (o : Option (List ℕ))
          → IfSome o (λ bytes. parameter_write sheet params node place ≡ Some (write_to place bytes)) → o ≡ None
      by None h = refl
      by (Some bytes) h = absurd (cc)

-- ---- what is read of the DCF

pub keep_some : (text : List ℕ) → 0 < length text → unless_empty text ≡ Some text
keep_some [] some = absurd (omega arith)
keep_some (c ∷ cs) some = refl

pub and_none : {X : Type 0} (f : List ℕ → Option X) (o : Option (List ℕ)) → ((text : List ℕ) → f text ≡ None)
    → option_and_then f o ≡ None
and_none f None h = refl
and_none f (Some text) h = h text

pub text_stands : (sheet : Sheet) (place : ℕ × ℕ)
    → value_text sheet.sections place.0 place.1 ≡ option_and_then unless_empty (value_that_stands sheet.sections place)
unfolding value_text value_that_stands
text_stands sheet place = refl

unset_text : (sheet : Sheet) (place : ℕ × ℕ)
    → parameter_text sheet.sections empty place
    ≡ option_and_then unless_empty (cond (is_of_pdos place.0) None (value_text sheet.sections place.0 place.1))
unfolding parameter_text
unset_text sheet place =
    ap (λ (o : Option (List ℕ)). option_and_then unless_empty
    (option_or o (cond (is_of_pdos place.0) None (value_text sheet.sections place.0 place.1))))
    (get-empty place_cmp place)

-- at each place outside the objects of PDOs, what writes leave is what those of the parameters leave
abbrev pub LeaveParameters : Sheet → Params → ℕ → List Write → Type 0
LeaveParameters sheet params node ws = (place : ℕ × ℕ) → is_of_pdos place.0 ≡ false
    → last_of ws place ≡ last_of (parameter_writes sheet params node) place

pub dcf_entry : (sheet : Sheet) (node : ℕ) (name : List ℕ) (bitrate : ℕ) (ws : List Write) (index sub : ℕ)
    → entry_at (dcf_sheet sheet node name bitrate ws) node index sub ≡ entry_at sheet node index sub
unfolding dcf_sections
dcf_entry sheet node name bitrate ws index sub = entry_same sheet (last_of ws) node name bitrate node index sub

-- warned lines say nothing of entries
pub entry_warned : (sheet : Sheet) (warnings : List ℕ) (node index sub : ℕ)
    → entry_at (record sheet { warnings = warnings }) node index sub ≡ entry_at sheet node index sub
unfolding entry_at description_of
entry_warned sheet warnings node index sub = refl

pub writes_warned : (sheet : Sheet) (warnings : List ℕ) (params : Params) (node : ℕ)
    → parameter_writes (record sheet { warnings = warnings }) params node ≡ parameter_writes sheet params node
unfolding parameter_writes entry_at description_of
writes_warned sheet warnings params node = refl

module _ (sheet : Sheet) (params : Params) (node : ℕ) (name : List ℕ) (bitrate : ℕ) (ws : List Write)
    (left : LeaveParameters sheet params node ws) where
  abbrev writes : List Write
  writes = parameter_writes sheet params node

  abbrev dcf : Sheet
  dcf = dcf_sheet sheet node name bitrate ws

  -- a text that is read there
  dcf_text : (place : ℕ × ℕ) → is_of_pdos place.0 ≡ false → is_typed sheet place ≡ true
      → parameter_text dcf.sections empty place
      ≡ option_and_then unless_empty (option_and_then unless_empty (option_map (text_of_value (kind_at sheet place))
      (last_of writes place)))
  dcf_text place other typed =
      unset_text dcf place
      ∙ ap (λ (t : Bool). option_and_then unless_empty (cond t None (value_text dcf.sections place.0 place.1))) other
      ∙ ap (option_and_then unless_empty)
      (text_stands dcf place ∙ ap (option_and_then unless_empty)
      (dcf_stands sheet node name bitrate ws place typed ∙ ap (option_map (text_of_value (kind_at sheet place)))
      (left place other)))

  among_writes : (place : ℕ × ℕ) (w : Write) → Contains (pairs_of sheet.sections) place
      → parameter_write sheet params node place ≡ Some w → Contains writes w
  unfolding parameter_writes
  among_writes place w there e =
      Contains-filter_map (parameter_write sheet params node) (pairs_of sheet.sections) place w there e

  write_some : (place : ℕ × ℕ) (w : Write) → Contains (pairs_of sheet.sections) place
      → parameter_write sheet params node place ≡ Some w → 0 < length w.bytes
  write_some place w there e = let sized =
      All-contains (λ w. (1 ≤ length w.bytes) × (length w.bytes ≤ 512)) writes w (writes_sized sheet params node)
      (among_writes place w there e) in omega (arith, sized.0)

  -- a parameter is read again
  again : (place : ℕ × ℕ) (w : Write) → Contains (pairs_of sheet.sections) place → is_of_pdos place.0 ≡ false
      → parameter_write sheet params node place ≡ Some w → parameter_write dcf empty node place ≡ Some w
  again place w there other e =
      let b = behind sheet params node place w e in
      let j = judged_entry (entry_at sheet node place.0 place.1) b.text w.bytes node b.judged_ok in
      let entry : Entry = j.0 in
      let s : Suits entry b.text w.bytes node = j.2 in
      let kind = kind_of_entry sheet node place.0 place.1 entry j.1 in
      let spelled = value_again entry.kind b.text w.bytes node s.spelled in
      let some : 0 < length (text_of_value entry.kind w.bytes) =
      printed_some entry.kind b.text w.bytes node s.spelled (write_some place w there e) in
      let text : parameter_text dcf.sections empty place ≡ Some (text_of_value entry.kind w.bytes) =
      dcf_text place other (typed sheet node place.0 place.1 entry j.1 s.modelled s.writable)
      ∙ ap (λ o. option_and_then unless_empty (option_and_then unless_empty
      (option_map (text_of_value (kind_at sheet place)) o))) (last_write sheet params node place w there e)
      ∙ ap (λ k. option_and_then unless_empty (unless_empty (text_of_value k w.bytes))) kind
      ∙ ap (option_and_then unless_empty) (keep_some (text_of_value entry.kind w.bytes) some)
      ∙ keep_some (text_of_value entry.kind w.bytes) some in
      let ok : parameter_bytes (entry_at dcf node place.0 place.1) (text_of_value entry.kind w.bytes) node
      ≡ Ok w.bytes =
      ap (λ o. parameter_bytes o (text_of_value entry.kind w.bytes) node)
      (dcf_entry sheet node name bitrate ws place.0 place.1 ∙ j.1)
      ∙ (judged_suits entry (text_of_value entry.kind w.bytes) w.bytes node).1 (record {
        modelled = s.modelled;
        writable = s.writable;
        spelled = spelled;
        above_low = s.above_low;
        below_high = s.below_high;
      }) in
      rw (text, ok) (ap (λ p. Some (write_to p w.bytes)) (sym b.at_place))

  -- and an entry without one gives none
  none_again : (place : ℕ × ℕ) → parameter_write sheet params node place ≡ None
      → parameter_write dcf empty node place ≡ None
  none_again place e = by (is_of_pdos place.0) refl (is_typed sheet place) refl
    where
      nothing : parameter_text dcf.sections empty place ≡ None → parameter_write dcf empty node place ≡ None
      nothing h = rw h refl

      by : (t : Bool) → is_of_pdos place.0 ≡ t → (u : Bool) → is_typed sheet place ≡ u
          → parameter_write dcf empty node place ≡ None
      by true p u h = nothing (unset_text dcf place
          ∙ ap (λ (t : Bool). option_and_then unless_empty (cond t None (value_text dcf.sections place.0 place.1))) p)
      by false p true h =
          nothing (dcf_text place p h
          ∙ ap (λ o. option_and_then unless_empty (option_and_then unless_empty
          (option_map (text_of_value (kind_at sheet place)) o))) (no_last sheet params node place e))
      by false p false h =
          ap (option_map (write_to place))
          (ap (λ o. option_and_then (λ text. result_ok (parameter_bytes o text node))
          (parameter_text dcf.sections empty place))
          (dcf_entry sheet node name bitrate ws place.0 place.1)
          ∙ and_none (λ text. result_ok (parameter_bytes (entry_at sheet node place.0 place.1) text node))
          (parameter_text dcf.sections empty place) (untyped sheet node place.0 place.1 h))

  -- entry by entry
  pub same_write : ((w : Write) → Contains writes w → is_of_pdos w.index ≡ false) → (place : ℕ × ℕ)
      → Contains (pairs_of sheet.sections) place
      → parameter_write dcf empty node place ≡ parameter_write sheet params node place
  same_write outside place there = by (parameter_write sheet params node place) refl
    where
      by : (o : Option Write) → parameter_write sheet params node place ≡ o → parameter_write dcf empty node place ≡ o
      by None e = none_again place e
      by (Some w) e =
          let at = (behind sheet params node place w e).at_place in
          again place w there (ap (λ (p : ℕ × ℕ). is_of_pdos p.0) (sym at) ∙ outside w (among_writes place w there e)) e

filter_map_agree : {X Y : Type 0} (f g : X → Option Y) (xs : List X) → AllByRecursion (λ x. f x ≡ g x) xs
    → filter_map f xs ≡ filter_map g xs
filter_map_agree f g [] h = refl
filter_map_agree f g (x ∷ xs) h = λ i. cons_option (h.0 i) (filter_map_agree f g xs h.1 i)

-- THE DCF CARRIES THE PARAMETERS
pub carried : (sheet : Sheet) (params : Params) (node : ℕ) (name : List ℕ) (bitrate : ℕ) (ws : List Write)
    → LeaveParameters sheet params node ws
    → ((w : Write) → Contains (parameter_writes sheet params node) w → is_of_pdos w.index ≡ false)
    → parameter_writes (dcf_sheet sheet node name bitrate ws) empty node ≡ parameter_writes sheet params node
unfolding parameter_writes
carried sheet params node name bitrate ws left outside =
    let there : Sheet = dcf_sheet sheet node name bitrate ws in
    ap (filter_map (parameter_write there empty node)) (dcf_pairs sheet node name bitrate ws)
    ∙ filter_map_agree (parameter_write there empty node) (parameter_write sheet params node) (pairs_of sheet.sections)
    (recursion_from_All (λ place. parameter_write there empty node place ≡ parameter_write sheet params node place)
    (pairs_of sheet.sections)
    (All-weaker (Contains (pairs_of sheet.sections)) (λ place. parameter_write there empty node place
    ≡ parameter_write sheet params node place) (same_write sheet params node name bitrate ws left outside)
    (pairs_of sheet.sections)
    (All-contains_itself (pairs_of sheet.sections))))
