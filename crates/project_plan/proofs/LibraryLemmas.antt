-- The devices that a library has.
use Rattle.std.proofs.Common.{◌≡◌, ℕ, Vec, List, Bool, true, false, cond, Option, Some, None, Bor, is_some}
use Rattle.std.proofs.Common.{option_copied, option_map, refl, sym, ap, subst, ◌∙◌}
use Rattle.std.specs.BTreeMap.{BTreeMap, Updates}
use Rattle.std.specs.FinMap.{empty, get, get-insert, insert}
use Rattle.std.specs.Option.{option_map_or}
use Rattle.std.specs.Ordering.{eq_by_cmp}
use Rattle.std.proofs.lemmas.Cmp.{nat_list_cmp_total}
use Rattle.std.proofs.lemmas.Map.Lookups.{exact_bytes}
use Rattle.eds_device.specs.Sheets.{Sheet, sheet_of}
use Rattle.project_edits.specs.Versions.{is_three}
use Rattle.base.proofs.EachLemmas.{each_empty, each_found, each_put}
use Rattle.base.proofs.TableLemmas.{alike, put_again, put_there}
use Rattle.project_messages.specs.Messages.{name_cmp}
use Rattle.project_messages.proofs.NameLemmas.{key_cmp, made, value_found, value_in, value_put}
use Rattle.co_project.specs.Project.{Content}
use Rattle.co_project.specs.Tables.{text_at}
use Rattle.project_plan.specs.Library.{with_device, AreRead, Devices, IsRead, Read}
use Rattle.project_plan.specs.Network.{device_at}

-- what the project's text of a name describes
abbrev pub IsDescribed : Content → List ℕ → Sheet → Type 0
IsDescribed project name device = device_at project name ≡ Some device

-- what was found behind a reference was found
pub is_there : {X : Type 0} (result : Option (Bor X)) (found : Option X) → option_copied result ≡ found
    → is_some result ≡ true → is_some found ≡ true
is_there None found is there = cc
is_there (Some x) found is there = sym (ap is_some is)

-- what is read of the text of a name by the version of the project is what that describes
pub read_now : (project : Content) (name text : List ℕ) (device : Sheet) (version : Bool)
    → text_at project.texts name ≡ Some text → version ≡ is_three project.version → device ≡ sheet_of version text
    → device_at project name ≡ Some device
read_now project name text device version there is read =
    ap (option_map (sheet_of (is_three project.version))) there
    ∙ ap Some (sym (read ∙ ap (λ (b : Bool). sheet_of b text) is))

-- ---- a library with one more

module _ (read : Read) (name : List ℕ) where
  with_one : Option Sheet → Read
  with_one o = record read { devices = option_map_or (insert read.devices name) o read.devices }

  -- the device of a name is there afterwards
  pub read_there : AreRead read.project read.devices → IsRead (with_device read name) name
  unfolding with_one
  read_there are = by (device_at read.project name) refl
    where
      none : (o : Option Sheet) → get read.devices name ≡ o → device_at read.project name ≡ None → o ≡ None
      none None found absent = refl
      none (Some device) found absent = cc (
        each_found (IsDescribed read.project) read.devices name device are found,
        absent,
      )

      by : (o : Option Sheet) → device_at read.project name ≡ o → get (with_one o).devices name ≡ o
      by None absent = none (get read.devices name) refl absent
      by (Some device) there = put_there nat_list_cmp_total exact_bytes read.devices name device

  -- as are those that were
  pub read_still : (other : List ℕ) → IsRead read other → IsRead (with_device read name) other
  unfolding with_one
  read_still other is = by (device_at read.project name) refl
    where
      at : (device : Sheet) → device_at read.project name ≡ Some device → (t : Bool)
          → eq_by_cmp name_cmp other name ≡ t
          → cond t (Some device) (get read.devices other) ≡ device_at read.project other
      at device there true same = sym there
          ∙ ap (λ n. device_at read.project n) (sym (alike nat_list_cmp_total exact_bytes other name same))
      at device there false apart = is

      by : (o : Option Sheet) → device_at read.project name ≡ o
          → get (with_one o).devices other ≡ device_at read.project other
      by None absent = is
      by (Some device) there = get-insert nat_list_cmp_total read.devices name device other
          ∙ at device there (eq_by_cmp name_cmp other name) refl

-- no devices
pub none_read : (project : Content) → AreRead project empty
none_read project = each_empty (IsDescribed project) empty refl

-- a device that was read before
pub read_before : (read : Read) (name : List ℕ) → AreRead read.project read.devices
    → is_some (get read.devices name) ≡ true → read ≡ with_device read name
read_before read name are there = by (get read.devices name) refl there
  where
    with : Option Sheet → Read
    with o = record read { devices = option_map_or (insert read.devices name) o read.devices }

    known : (device : Sheet) → get read.devices name ≡ Some device → read ≡ with (Some device)
    known device found =
        ap (λ (devices : Devices). record read { devices = devices })
        (sym (put_again nat_list_cmp_total exact_bytes read.devices name device found))

    by : (o : Option Sheet) → get read.devices name ≡ o → is_some o ≡ true → read ≡ with_device read name
    by None none there = cc
    by (Some device) found there =
        known device found
        ∙ ap with (sym (each_found (IsDescribed read.project) read.devices name device are found))

module _ {A : Type 0} (project : Content) where
  -- what a tree of devices shows
  abbrev pub shows : List (Vec ℕ A × Sheet) → Read
  shows es = record { project = project; devices = made es }

  module _ (es : List (Vec ℕ A × Sheet)) (read : Read) (name : List ℕ) (is : shows es ≡ read) where
    -- the device of a name
    pub device_found : value_in es name ≡ get read.devices name
    device_found = sym (value_found es name) ∙ ap (λ (r : Read). get r.devices name) is

    -- what the text of a name describes
    pub device_there : device_at project name ≡ device_at read.project name
    device_there = ap (λ (r : Read). device_at r.project name) is

  module _ (tree after : BTreeMap (Vec ℕ A) Sheet) (name : List ℕ) (key : Vec ℕ A) (device : Sheet)
      (same : key.items ≡ name) (there : device_at project name ≡ Some device)
      (updates : Updates key_cmp tree after key (Some device)) where
    -- a device that is put
    device_put : made after.entries ≡ insert (made tree.entries) name device
    device_put =
        value_put tree.entries after.entries key device updates.0 ∙ ap (λ n. insert (made tree.entries) n device) same

    pub device_added : (read : Read) → shows tree.entries ≡ read → shows after.entries ≡ with_device read name
    device_added read seen =
        ap (λ (devices : Devices). record { project = project; devices = devices }) device_put
        ∙ ap (λ o. record {
          project = project;
          devices = option_map_or (insert (made tree.entries) name) o (made tree.entries);
        })
        (sym there)
        ∙ ap (λ (r : Read). with_device r name) seen

    -- it is described, as the others are
    pub added_described : AreRead project (made tree.entries) → AreRead project (made after.entries)
    added_described are =
        subst (AreRead project) (sym device_put)
        (each_put nat_list_cmp_total exact_bytes (IsDescribed project) (made tree.entries) name device are there)
