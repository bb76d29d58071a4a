-- The data sheets that are held by name, and what was found of the nodes of one.
use Rattle.std.proofs.Common.{◌≡◌, ℕ, Vec, List, [], ◌∷◌, All, Bool, true, false, cond, Option, Some, None, IfSome}
use Rattle.std.proofs.Common.{IsSome, refl, sym, ap, subst, ◌∙◌}
use Rattle.std.specs.BTreeMap.{is_at, BTreeMap, Updates, WritesThrough}
use Rattle.std.specs.FinMap.{get, insert}
use Rattle.std.specs.Map.{values_of}
use Rattle.std.specs.Map.Calls.{RetainsPairs}
use Rattle.std.proofs.lemmas.Cmp.{nat_list_cmp_total}
use Rattle.std.proofs.lemmas.List.Elements.{All-cons, All-head, All-tail}
use Rattle.std.proofs.lemmas.Map.Entries.{All-from_retain_pairs}
use Rattle.std.proofs.lemmas.Map.Lookups.{exact_bytes}
use Rattle.std.proofs.lemmas.Map.Views.{tells_apart}
use Rattle.base.proofs.EachLemmas.{each_put}
use Rattle.base.proofs.TableLemmas.{put_again, put_there}
use Rattle.eds_device.specs.Sheets.{Sheet}
use Rattle.project_messages.specs.Messages.{name_cmp}
use Rattle.project_messages.proofs.NameLemmas.{key_cmp, made, value_changed, value_found, value_in, value_put}
use Rattle.co_project.specs.Project.{Content}
use Rattle.project_plan.specs.Library.{AreRead, Devices}
use Rattle.project_plan.specs.Network.{device_at}
use Rattle.diag_nodes.specs.Held.{HoldsNoOther}

-- ---- what is let go

module _ {F K X : Type 0} (T : F → K → X → Bool → X → F → Type 0) where
  -- what holds of each value holds of those that are left as they were
  pub values_left : (P : X → Type 0) (f : F)
      → ((k : K) (v : X) (b : Bool) (w : X) (f' : F) → T f k v b w f' → (w ≡ v) × (f' ≡ f))
      → (es kept : List (K × X)) → All P (values_of es) → RetainsPairs T f es kept → All P (values_of kept)
  values_left P f same [] kept all s = subst (λ (xs : List (K × X)). All P (values_of xs)) (sym s) all
  values_left P f same (e ∷ es) kept all s =
      let told = same e.0 e.1 s.0 s.1 s.2 s.4 in
      subst (λ (xs : List (K × X)). All P (values_of xs)) (sym s.6)
      (by s.0 told.0 (values_left P f same es s.3 (All-tail P e.1 (values_of es) all)
      (subst (λ (u : F). RetainsPairs T u es s.3) told.1 s.5)))
    where
      by : (b : Bool) → s.1 ≡ e.1 → All P (values_of s.3) → All P (values_of (cond b ((e.0, s.1) ∷ s.3) s.3))
      by true is rest = All-cons P s.1 (values_of s.3)
          (subst P (sym is) (All-head P e.1 (values_of es) all)) rest
      by false is rest = rest

  -- what holds of each pair that is picked holds of those that are left
  pub pairs_left : (P : K × X → Type 0) (f : F)
      → ((k : K) (v : X) (b : Bool) (w : X) (f' : F) → T f k v b w f' → (b ≡ true → P (k, w)) × (f' ≡ f))
      → (es kept : List (K × X)) → RetainsPairs T f es kept → All P kept
  pairs_left P f told es kept s =
      All-from_retain_pairs T (λ (g : F). g ≡ f) P
      (λ g k v b w g' i t. told k v b w g' (subst (λ (u : F). T u k v b w g') i t)) f es kept refl s

-- ---- the data sheets of now

module _ {A : Type 0} (project : Content) where
  -- a data sheet is what the project's text of its name describes
  abbrev pub IsNow : Vec ℕ A × Sheet → Type 0
  IsNow e = device_at project e.0.items ≡ Some e.1

  now_at : (name : List ℕ) (es : List (Vec ℕ A × Sheet)) → All IsNow es
      → IfSome (value_in es name) (λ sheet. device_at project name ≡ Some sheet)
  now_at name [] all = tt
  now_at name (e ∷ es) all = by (is_at (name_cmp name) e.0.items) refl (now_at name es (All-tail IsNow e es all))
    where
      by : (t : Bool) → is_at (name_cmp name) e.0.items ≡ t
          → IfSome (value_in es name) (λ sheet. device_at project name ≡ Some sheet)
          → IfSome (cond t (Some e.1) (value_in es name)) (λ sheet. device_at project name ≡ Some sheet)
      by true same rest = ap (λ (n : List ℕ). device_at project n) (tells_apart exact_bytes name e.0.items same)
          ∙ All-head IsNow e es all
      by false other rest = rest

  pub are_now : (es : List (Vec ℕ A × Sheet)) → All IsNow es → AreRead project (made es)
  are_now es all name = subst (λ (o : Option Sheet). IfSome o (λ sheet. device_at project name ≡ Some sheet))
      (sym (value_found es name)) (now_at name es all)

module _ (project : Content) (sheets : Devices) (name : List ℕ) (device : Sheet) (are : AreRead project sheets)
    (there : device_at project name ≡ Some device) where
  -- so no other is held by the name of a device
  pub no_other : HoldsNoOther sheets name device
  no_other = by (get sheets name) (are name)
    where
      by : (o : Option Sheet) → IfSome o (λ held. device_at project name ≡ Some held) → IfSome o (λ held. held ≡ device)
      by None h = tt
      by (Some held) h =
          let same : Some held ≡ Some device = sym h ∙ there in
          cc

  -- and they stay those of now where it is held
  pub still_now : AreRead project (insert sheets name device)
  still_now = each_put nat_list_cmp_total exact_bytes (λ n s. device_at project n ≡ Some s) sheets name device are there

-- ---- a data sheet by name

-- one that is held is no other
pub sheet_is : (o : Option Sheet) (sheet device : Sheet) → Some sheet ≡ o → IfSome o (λ held. held ≡ device)
    → sheet ≡ device
sheet_is o sheet device is no_other =
    subst (λ (x : Option Sheet). IfSome x (λ held. held ≡ device)) (sym is) no_other

-- it is held as it was
pub held_again : (sheets : Devices) (name : List ℕ) (sheet device : Sheet) → Some sheet ≡ get sheets name
    → HoldsNoOther sheets name device → sheets ≡ insert sheets name device
held_again sheets name sheet device is no_other =
    sym (put_again nat_list_cmp_total exact_bytes sheets name device
    (sym is ∙ ap Some (sheet_is (get sheets name) sheet device is no_other)))

-- one that is put is no other
pub no_other_than_put : (sheets new : Devices) (name : List ℕ) (device other : Sheet)
    → new ≡ insert sheets name device → other ≡ device → HoldsNoOther new name other
no_other_than_put sheets new name device other is same =
    subst (λ (o : Option Sheet). IfSome o (λ held. held ≡ other))
    (sym (ap (λ (m : Devices). get m name) is ∙ put_there nat_list_cmp_total exact_bytes sheets name device)) (sym same)

module _ {A : Type 0} (tree : BTreeMap (Vec ℕ A) Sheet) (sheets : Devices) (is : made tree.entries ≡ sheets) where
  pub sheet_found : (name : List ℕ) → value_in tree.entries name ≡ get sheets name
  sheet_found name = sym (value_found tree.entries name) ∙ ap (λ (m : Devices). get m name) is

  module _ (after : BTreeMap (Vec ℕ A) Sheet) where
    pub sheet_put : (key : Vec ℕ A) (sheet : Sheet) → Updates key_cmp tree after key (Some sheet)
        → made after.entries ≡ insert sheets key.items sheet
    sheet_put key sheet updates =
        value_put tree.entries after.entries key sheet updates.0 ∙ ap (λ (m : Devices). insert m key.items sheet) is

    pub sheets_stay : after ≡ tree → made after.entries ≡ sheets
    sheets_stay same = ap (λ t. made t.entries) same ∙ is

    -- one that is left as it was
    pub sheet_left : (name : List ℕ) (old new : Sheet) → Some old ≡ value_in tree.entries name → new ≡ old
        → WritesThrough key_cmp (λ k. name_cmp name k.items) tree new after → made after.entries ≡ sheets
    sheet_left name old new found same writes =
        value_changed tree.entries after.entries name old new found (writes.3 (subst IsSome found refl)).0
        ∙ ap (λ (m : Devices). insert m name new) is
        ∙ ap (insert sheets name) same
        ∙ put_again nat_list_cmp_total exact_bytes sheets name old (sym (sheet_found name) ∙ sym found)
