-- The values that a DCF gives are those that it was made of.
use Rattle.std.proofs.Common.{◌≡◌, ◌∙◌, ℕ, ◌==◌, ◌&&◌, Bool, true, false, cond, List, [], ◌∷◌, ◌++◌, All, IfSome}
use Rattle.std.proofs.Common.{Option, Some, None, option_map, option_and_then, reverse, refl, sym, ap, subst}
use Rattle.std.specs.List.{find}
use Rattle.std.specs.Option.{option_or}
use Rattle.std.proofs.lemmas.Bool.{eqb-true, false≢true}
use Rattle.std.proofs.lemmas.List.{reverse-append}
use Rattle.std.proofs.lemmas.List.Elements.{All-head, All-tail}
use Rattle.std.proofs.lemmas.List.Folds.{find-append}
use Rattle.std.proofs.lemmas.Option.{same_Some}
use Rattle.concise_dcf.specs.declared.write.Write.{Write}
use Rattle.co_values.specs.declared.data_type.DataType.{DataType}
use Rattle.co_values.specs.declared.form.Form.{Form}
use Rattle.co_values.specs.declared.form.Form.TheVariants.{Flag, Signed, Unsigned, Decimal, Characters, HexPairs, Unmodelled}
use Rattle.co_values.specs.Types.{form, is_modelled, is_modelled_form}
use Rattle.co_values.specs.Values.{text_of_value, value, value_in}
use Rattle.co_dict.specs.declared.entry.Entry.{Entry}
use Rattle.co_dict.specs.Accesses.{is_writable}
use Rattle.cia301.specs.PdoObjects.{is_of_pdos}
use Rattle.node_parameters.proofs.ParameterLemmas.{kind_of_entry}
use Rattle.eds_device.specs.Described.{unless_empty, value_text}
use Rattle.eds_device.specs.Entries.{entry_at}
use Rattle.eds_device.specs.Sheets.{Sheet}
use Rattle.eds_dcf.specs.Dcf.{dcf_sheet}
use Rattle.eds_dcf.specs.Writes.{is_to, last_of}
use Rattle.eds_dcf.proofs.AgainLemmas.{printed_some}
use Rattle.eds_dcf.proofs.CarriedLemmas.{dcf_entry, keep_some, text_stands, typed}
use Rattle.eds_dcf.proofs.EntryLemmas.{left_holds}
use Rattle.eds_dcf.proofs.WholeLemmas.{dcf_stands}
use Rattle.project_plan.specs.Files.{value_in_file}
use Rattle.project_plan.proofs.ValueLemmas.{IsGiven}

-- ---- types that aren't modelled

none_in : (f : Form) (text : List ℕ) (node : ℕ) → is_modelled_form f ≡ false → value_in f text node ≡ None
none_in Flag text node e = cc
none_in (Signed w) text node e = cc
none_in (Unsigned w) text node e = cc
none_in (Decimal real) text node e = cc
none_in Characters text node e = cc
none_in HexPairs text node e = cc
none_in Unmodelled text node e = refl

no_value : (kind : DataType) (node : ℕ) → is_modelled kind ≡ false → (o : Option (List ℕ))
    → option_and_then (λ text. value kind text node) o ≡ None
unfolding value
no_value kind node e None = refl
no_value kind node e (Some text) = none_in (form kind) text node e

-- ---- one entry

module _ (sheet : Sheet) (node : ℕ) (name : List ℕ) (bitrate : ℕ) (ws : List Write)
    (all : All (λ (w : Write). IsGiven sheet node (w.index, w.sub) w.bytes) ws) where
  abbrev dcf : Sheet
  dcf = dcf_sheet sheet node name bitrate ws

  abbrev given_by : ℕ × ℕ → Entry → Option (List ℕ)
  given_by place entry = cond (is_writable entry.access)
      (option_and_then (λ text. value entry.kind text node) (value_text dcf.sections place.0 place.1)) None

  left : (place : ℕ × ℕ) → IfSome (last_of ws place) (IsGiven sheet node place)
  left place = left_holds (IsGiven sheet node) ws place all

  -- the text that stands for an entry that may be written
  text_of_entry : (place : ℕ × ℕ) (entry : Entry) → entry_at sheet node place.0 place.1 ≡ Some entry
      → is_modelled entry.kind ≡ true → is_writable entry.access ≡ true
      → value_text dcf.sections place.0 place.1 ≡ option_and_then unless_empty (option_map (text_of_value entry.kind)
      (last_of ws place))
  text_of_entry place entry there modelled writable =
      text_stands dcf place
      ∙ ap (option_and_then unless_empty)
      (dcf_stands sheet node name bitrate ws place (typed sheet node place.0 place.1 entry there modelled writable)
      ∙ ap (λ (k : DataType). option_map (text_of_value k) (last_of ws place))
      (kind_of_entry sheet node place.0 place.1 entry there))

  -- an entry that has none
  none_given : (place : ℕ × ℕ) (entry : Entry) → entry_at sheet node place.0 place.1 ≡ Some entry → last_of ws place ≡ None
      → given_by place entry ≡ None
  none_given place entry there none = by (is_writable entry.access) (is_modelled entry.kind) refl refl
    where
      by : (t u : Bool) → is_writable entry.access ≡ t → is_modelled entry.kind ≡ u
          → cond t (option_and_then (λ text. value entry.kind text node) (value_text dcf.sections place.0 place.1)) None ≡ None
      by false u writable modelled = refl
      by true false writable modelled = no_value entry.kind node modelled (value_text dcf.sections place.0 place.1)
      by true true writable modelled =
          ap (option_and_then (λ text. value entry.kind text node))
          (text_of_entry place entry there modelled writable
          ∙ ap (λ o. option_and_then unless_empty (option_map (text_of_value entry.kind) o)) none)

  -- one that has a value
  some_given : (place : ℕ × ℕ) (entry : Entry) (bytes : List ℕ) → entry_at sheet node place.0 place.1 ≡ Some entry
      → last_of ws place ≡ Some bytes → IsGiven sheet node place bytes
      → given_by place entry ≡ Some bytes
  some_given place entry bytes there last given =
      let same : given.entry ≡ entry = same_Some given.entry entry (sym given.there ∙ there) in
      let modelled : is_modelled entry.kind ≡ true =
      subst (λ (e : Entry). is_modelled e.kind ≡ true) same given.modelled in
      let writable : is_writable entry.access ≡ true =
      subst (λ (e : Entry). is_writable e.access ≡ true) same given.writable in
      let again : value entry.kind (text_of_value entry.kind bytes) node
      ≡ Some bytes = subst (λ (e : Entry). value e.kind (text_of_value e.kind bytes) node
      ≡ Some bytes) same given.again in
      let text : value_text dcf.sections place.0 place.1 ≡ Some (text_of_value entry.kind bytes) =
      text_of_entry place entry there modelled writable
      ∙ ap (λ o. option_and_then unless_empty (option_map (text_of_value entry.kind) o)) last
      ∙ keep_some (text_of_value entry.kind bytes)
      (printed_some entry.kind (text_of_value entry.kind bytes) bytes node again given.some) in
      rw (writable, text) again

  pub given : (place : ℕ × ℕ) → value_in_file (dcf_sheet sheet node name bitrate ws) node place ≡ last_of ws place
  unfolding value_in_file
  given place = ap (option_and_then (given_by place)) (dcf_entry sheet node name bitrate ws place.0 place.1)
      ∙ by (entry_at sheet node place.0 place.1) (last_of ws place) refl refl (left place)
    where
      by : (o : Option Entry) (l : Option (List ℕ)) → entry_at sheet node place.0 place.1 ≡ o → last_of ws place ≡ l
          → IfSome l (IsGiven sheet node place) → option_and_then (given_by place) o ≡ l
      by None None there last is = refl
      by None (Some bytes) there last is = let contrary : (let none : Option Entry = None in none ≡ Some is.entry) =
          sym there ∙ is.there in cc
      by (Some entry) None there last is = none_given place entry there last
      by (Some entry) (Some bytes) there last is = some_given place entry bytes there last is

-- ---- what further writes leave

module _ (place : ℕ × ℕ) where
  none_found : (ws : List Write) → All (λ w. is_to place w ≡ false) ws → find (is_to place) (reverse ws) ≡ None
  none_found [] all = refl
  none_found (w ∷ ws) all =
      ap (find (is_to place)) (reverse-append (w ∷ []) ws) ∙ find-append (is_to place) (reverse ws) (w ∷ [])
      ∙ ap (λ o. option_or o (cond (is_to place w) (Some w) None))
      (none_found ws (All-tail (λ w. is_to place w ≡ false) w ws all))
      ∙ ap (λ t. cond t (Some w) None) (All-head (λ w. is_to place w ≡ false) w ws all)

  -- writes to other entries leave an entry as it is
  pub left_alone : (before after : List Write) → All (λ w. is_to place w ≡ false) after
      → last_of (before ++ after) place ≡ last_of before place
  unfolding last_of
  left_alone before after all =
      ap (option_map (λ (w : Write). w.bytes))
      (ap (find (is_to place)) (reverse-append before after)
      ∙ find-append (is_to place) (reverse after) (reverse before)
      ∙ ap (λ o. option_or o (find (is_to place) (reverse before))) (none_found after all))

-- a write to an object of PDOs is to no other entry
pub to_another : (place : ℕ × ℕ) (w : Write) → is_of_pdos place.0 ≡ false → is_of_pdos w.index ≡ true
    → is_to place w ≡ false
to_another place w other pdo = by (place.0 == w.index) refl
  where
    by : (t : Bool) → (place.0 == w.index) ≡ t → t && (place.1 == w.sub) ≡ false
    by true same = absurd (false≢true (sym other ∙ ap is_of_pdos (eqb-true place.0 w.index same) ∙ pdo))
    by false apart = refl
