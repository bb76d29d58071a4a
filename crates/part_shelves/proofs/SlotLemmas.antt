-- The slots that a tree by names makes, where some are put, marked or let go.
use Rattle.std.proofs.Common.{◌≡◌, ℕ, Vec, List, Bool, true, false, Option, Some, None, IsSome, option_map, cond, map, refl}
use Rattle.std.proofs.Common.{sym, ap, subst, ◌∙◌}
use Rattle.std.specs.BTreeMap.{is_at, BTreeMap, Updates, WritesThrough}
use Rattle.std.specs.FinMap.{get, get-insert, get-remove, get-retain_keys, insert, remove, retain_keys, same_map}
use Rattle.std.specs.List.{filter}
use Rattle.std.specs.Option.{option_map_or}
use Rattle.std.specs.Ordering.{eq_by_cmp}
use Rattle.std.proofs.lemmas.Cmp.{nat_list_cmp_total}
use Rattle.std.proofs.lemmas.Map.Entries.{lookup-filter-keys}
use Rattle.std.proofs.lemmas.Map.Lookups.{exact_bytes}
use Rattle.std.proofs.lemmas.Map.Made.{lookup-map_values}
use Rattle.std.proofs.lemmas.Map.Views.{tells_apart}
use Rattle.base.proofs.TableLemmas.{alike}
use Rattle.eds_device.specs.Sheets.{sheet_of}
use Rattle.project_edits.specs.Versions.{is_three}
use Rattle.project_messages.specs.Messages.{name_cmp}
use Rattle.project_messages.proofs.NameLemmas.{key_cmp, made, value_changed, value_found, value_in, value_put}
use Rattle.co_project.specs.Project.{Content as Project}
use Rattle.co_project.specs.Tables.{text_at}
use Rattle.part_shelves.specs.SheetText.{sheet_given, sheet_made, sheet_text, SheetText}
use Rattle.part_shelves.specs.Slots.{fresh_at, fresh_slot, marked, sheet_kept, with_fresh, Slots}
use Rattle.part_shelves.specs.declared.device_slot.DeviceSlot.{DeviceSlot}

-- the mark set or taken at a slot, if there is one
abbrev set_at : Slots → List ℕ → Bool → Option DeviceSlot → Slots
set_at slots name fresh o = option_map_or (λ (s : DeviceSlot). insert slots name (record s { fresh = fresh })) o slots

-- a slot that is put where it is
same_put : (slots : Slots) (name : List ℕ) (s : DeviceSlot) → get slots name ≡ Some s → insert slots name s ≡ slots
same_put slots name s there =
    same_map nat_list_cmp_total exact_bytes _ _ (λ q. get-insert nat_list_cmp_total slots name s q
    ∙ by q (eq_by_cmp name_cmp q name) refl)
  where
    by : (q : List ℕ) (t : Bool) → eq_by_cmp name_cmp q name ≡ t → cond t (Some s) (get slots q) ≡ get slots q
    by q true same = sym there ∙ ap (get slots) (sym (alike nat_list_cmp_total exact_bytes q name same))
    by q false other = refl

module _ {A : Type 0} (tree : BTreeMap (Vec ℕ A) DeviceSlot) (slots : Slots) (is : made tree.entries ≡ slots) where
  pub slot_found : (name : List ℕ) → value_in tree.entries name ≡ get slots name
  slot_found name = sym (value_found tree.entries name) ∙ ap (λ (m : Slots). get m name) is

  pub sheet_found : (name : List ℕ) (o : Option DeviceSlot) → o ≡ value_in tree.entries name
      → option_map (λ (s : DeviceSlot). s.kept) o ≡ sheet_kept slots name
  sheet_found name o found = ap (option_map (λ (s : DeviceSlot). s.kept)) (found ∙ slot_found name)

  module _ (after : BTreeMap (Vec ℕ A) DeviceSlot) where
    pub slot_put : (key : Vec ℕ A) (s : DeviceSlot) → Updates key_cmp tree after key (Some s)
        → made after.entries ≡ insert slots key.items s
    slot_put key s updates =
        value_put tree.entries after.entries key s updates.0 ∙ ap (λ (m : Slots). insert m key.items s) is

    pub slots_stay : after ≡ tree → made after.entries ≡ slots
    slots_stay same = ap (λ t. made t.entries) same ∙ is

    pub slot_marked : (name : List ℕ) (old : DeviceSlot) → Some old ≡ value_in tree.entries name → (fresh : Bool)
        (new : DeviceSlot) → new ≡ record old { fresh = fresh }
        → WritesThrough key_cmp (λ k. name_cmp name k.items) tree new after
        → made after.entries ≡ with_fresh slots name fresh
    slot_marked name old found fresh new same writes =
        value_changed tree.entries after.entries name old new found (writes.3 (subst IsSome found refl)).0
        ∙ ap (λ (m : Slots). insert m name new) is
        ∙ ap (insert slots name) same
        ∙ sym (ap (set_at slots name fresh) (sym (slot_found name) ∙ sym found))

    -- a slot that is left as it was
    pub slot_left : (name : List ℕ) (old new : DeviceSlot) → Some old ≡ value_in tree.entries name → new ≡ old
        → WritesThrough key_cmp (λ k. name_cmp name k.items) tree new after → made after.entries ≡ slots
    slot_left name old new found same writes =
        value_changed tree.entries after.entries name old new found (writes.3 (subst IsSome found refl)).0
        ∙ ap (λ (m : Slots). insert m name new) is
        ∙ ap (insert slots name) same
        ∙ same_put slots name old (sym (slot_found name) ∙ sym found)

  pub none_marked : (name : List ℕ) (fresh : Bool) → None ≡ value_in tree.entries name
      → slots ≡ with_fresh slots name fresh
  none_marked name fresh none = sym (ap (set_at slots name fresh) (sym (slot_found name) ∙ sym none))

-- ---- what is brought

module _ (slots : Slots) (name : List ℕ) where
  -- at the name stands this, and the rest stays
  abbrev pub StandsAt : Slots → Option DeviceSlot → Type 0
  StandsAt new s = (q : List ℕ) → get new q ≡ cond (eq_by_cmp name_cmp q name) s (get slots q)

  pub put_stands : (s : DeviceSlot) → StandsAt (insert slots name s) (Some s)
  put_stands s q = get-insert nat_list_cmp_total slots name s q

  pub gone_stands : StandsAt (remove slots name) None
  gone_stands q = get-remove nat_list_cmp_total slots name q

  -- nothing is changed
  pub same_stands : (o : Option DeviceSlot) → get slots name ≡ o → StandsAt slots o
  same_stands o there q = by (eq_by_cmp name_cmp q name) refl
    where
      by : (t : Bool) → eq_by_cmp name_cmp q name ≡ t → get slots q ≡ cond t o (get slots q)
      by true same = ap (get slots) (alike nat_list_cmp_total exact_bytes q name same) ∙ there
      by false other = refl

  fresh_is : (o : Option DeviceSlot) (given : Option SheetText)
      → option_map_or (λ (s : DeviceSlot). s.fresh) o false ≡ true
      → option_map (λ (s : DeviceSlot). s.kept) o ≡ given → o ≡ option_map fresh_slot given
  fresh_is None given fresh same = cc
  fresh_is (Some s) None fresh same = cc
  fresh_is (Some s) (Some g) fresh same =
      let e : s.kept ≡ g = cc in
      let f : s.fresh ≡ true = cc in
      ap Some (ap (λ (k : SheetText). slot k s.fresh) e ∙ ap (slot g) f)
    where
      slot : SheetText → Bool → DeviceSlot
      slot k f = record { kept = k; fresh = f }

  -- a device without a mark
  pub fresh_stands : (given : Option SheetText) → fresh_at slots name ≡ true → sheet_kept slots name ≡ given
      → StandsAt slots (option_map fresh_slot given)
  fresh_stands given fresh same =
      same_stands (option_map fresh_slot given) (fresh_is (get slots name) given fresh same)

  -- a mark is taken
  pub cleared_stands : (given : SheetText) → sheet_kept slots name ≡ Some given
      → StandsAt (with_fresh slots name true) (Some (fresh_slot given))
  cleared_stands given same = by (get slots name) refl same
    where
      by : (o : Option DeviceSlot) → get slots name ≡ o → option_map (λ (s : DeviceSlot). s.kept) o ≡ Some given
          → StandsAt (set_at slots name true o) (Some (fresh_slot given))
      by None there is = cc
      by (Some s) there is =
          let e : s.kept ≡ given = cc in
          subst (λ (k : SheetText). StandsAt (insert slots name (record s { fresh = true })) (Some (fresh_slot k))) e
          (put_stands (record s { fresh = true }))

-- ---- what is let go

-- the map of the slots whose names pass
pub names_kept : {A : Type 0} (known : List ℕ → Bool) (es kept : List (Vec ℕ A × DeviceSlot))
    → kept ≡ filter (λ e. known e.0.items) es → made kept ≡ retain_keys (made es) known
names_kept {A} known es kept left =
    same_map nat_list_cmp_total exact_bytes _ _ (λ q.
    value_found kept q
    ∙ ap (λ (fs : List (Vec ℕ A × DeviceSlot)). value_in fs q) left
    ∙ lookup-filter-keys (λ (k : Vec ℕ A). is_at (name_cmp q) k.items) (λ (k : Vec ℕ A). known k.items) (known q)
    (λ k t. ap known (sym (tells_apart exact_bytes q k.items t))) es
    ∙ ap (λ o. cond (known q) o None) (sym (value_found es q))
    ∙ sym (get-retain_keys (made es) known q (λ x t. ap known (sym (exact_bytes q x t)))))

-- ---- what has a mark

-- the slots, where each has one
pub all_marked : {A : Type 0} (es after : List (Vec ℕ A × DeviceSlot)) → after ≡ map (λ e. (e.0, marked e.1)) es
    → (q : List ℕ) → get (made after) q ≡ option_map marked (get (made es) q)
all_marked {A} es after each q =
    value_found after q
    ∙ ap (λ (fs : List (Vec ℕ A × DeviceSlot)). value_in fs q) each
    ∙ lookup-map_values marked (λ (k : Vec ℕ A). is_at (name_cmp q) k.items) es
    ∙ ap (option_map marked) (sym (value_found es q))

-- ---- what a device is read from

-- the device of a name, by what it is to be read from now
pub sheet_read : (p : Project) (name : List ℕ) → option_map sheet_made (sheet_given p name)
    ≡ option_map (sheet_of (is_three p.version)) (text_at p.texts name)
sheet_read p name = by (text_at p.texts name)
  where
    by : (o : Option (List ℕ)) → option_map sheet_made (option_map (sheet_text (is_three p.version)) o)
        ≡ option_map (sheet_of (is_three p.version)) o
    by None = refl
    by (Some text) = refl
