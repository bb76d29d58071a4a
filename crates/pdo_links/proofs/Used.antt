-- The PDOs of a node that messages use.
use Rattle.std.proofs.Common.{◌≡◌, ℕ, List, [], All, Option, Some, None, refl, sym}
use Rattle.std.specs.Prelude.{filter_map, option_map, IfSome, OnOk, Result, Ok, Err}
use Rattle.std.specs.Borrow.{Bor}
use Rattle.std.specs.BTreeMap.{is_at}
use Rattle.std.specs.Map.{lookup}
use Rattle.std.specs.Option.{option_copied, option_map_or}
use Rattle.std.specs.Ordering.{nat_cmp}
use Rattle.std.proofs.lemmas.List.Elements.{All-contains}
use Rattle.co_dict.specs.Shapes.{HasIndex}
use Rattle.pdo_stations.specs.declared.as_made.AsMade.{AsMade}
use Rattle.vendor_pdos.proofs.PresentLemmas.{no_entry}
use Rattle.pdo_choices.specs.declared.clean.Clean.{Clean}
use Rattle.pdo_choices.specs.declared.consumer.Consumer.{Consumer}
use Rattle.pdo_choices.specs.Limits.{IsNumbered, IsWithin}
use Rattle.pdo_links.specs.declared.taken.Taken.{Taken}
use Rattle.pdo_links.specs.PdoWrites.{rpdo_of, tpdo_of}
use Rattle.pdo_links.specs.VendorWrites.{unused_writes}
use Rattle.pdo_links.proofs.Numbered.{sends, takes, Takes}

-- what holds anyway holds where a call passes
pub anyway : {T E P : Type 0} (r : Result T E) → P → OnOk r P
anyway (Ok x) p = p
anyway (Err e) p = tt

-- of a PDO that the device hasn't nothing is written
pub no_unused : (device : AsMade) (object : ℕ) → (HasIndex device.shape object → ⊥) → unused_writes device object ≡ []
unfolding unused_writes
no_unused device object none = rw (no_entry device object none 1) refl

-- what is made of a shown value
pub of_shown : {X Y Z : Type 0} (shows : X → Y) (f : Y → Z) (other : Z) (o : Option X)
    → option_map_or (λ x. f (shows x)) o other ≡ option_map_or f (option_map shows o) other
of_shown shows f other None = refl
of_shown shows f other (Some x) = refl

-- their numbers and mappings are within their limits
pub sent_within : (cs : List Clean) (node number : ℕ) (o : Option (Bor Clean)) → All IsWithin cs
    → option_copied o ≡ lookup (is_at (nat_cmp number)) (filter_map (tpdo_of node) cs)
    → IfSome o (λ (c : Bor Clean). IsWithin c.now)
sent_within cs node number None within is = tt
sent_within cs node number (Some c) within is =
    All-contains IsWithin cs c.now within (sends cs node number c.now (sym is)).message

pub taken_within : (cs : List Clean) (node number : ℕ) (t : Clean × Consumer) → All IsWithin cs → Takes cs node number t
    → IsNumbered t.1.rpdo t.1.mapping
taken_within cs node number t within taken =
    All-contains (λ (k : Consumer). IsNumbered k.rpdo k.mapping) t.0.consumers t.1
    (All-contains IsWithin cs t.0 within taken.message).taken taken.consumer

pub used_within : (cs : List Clean) (node number : ℕ) (o : Option Taken) → All IsWithin cs
    → option_map (λ (t : Taken). (t.clean.now, t.consumer.now)) o
    ≡ lookup (is_at (nat_cmp number)) (filter_map (rpdo_of node) cs)
    → IfSome o (λ (t : Taken). IsNumbered t.consumer.now.rpdo t.consumer.now.mapping)
used_within cs node number None within is = tt
used_within cs node number (Some t) within is =
    taken_within cs node number (t.clean.now, t.consumer.now) within
    (takes cs node number (t.clean.now, t.consumer.now) (sym is))
