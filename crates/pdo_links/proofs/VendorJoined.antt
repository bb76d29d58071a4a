-- How the writes of a PDO of a device as its vendor made it are joined.
use Rattle.std.proofs.Common.{◌≡◌, ℕ, ◌+◌, Bool, true, false, List, [], ◌∷◌, ◌++◌, length, append_assoc, sym, ap, ◌∙◌}
use Rattle.std.specs.Prelude.{if◌then◌else◌}
use Rattle.cia301.specs.CobIds.{off_bit}
use Rattle.cia301.specs.PdoObjects.{mapping_object}
use Rattle.concise_dcf.specs.declared.write.Write.{Write}
use Rattle.pdo_stations.specs.declared.as_made.AsMade.{AsMade}
use Rattle.pdo_stations.specs.declared.mapped.Mapped.{Mapped}
use Rattle.vendor_pdos.specs.Mappings.{writes_mapping}
use Rattle.vendor_pdos.specs.Parameters.{is_open}
use Rattle.pdo_links.specs.PdoWrites.{cob_write, mapping_writes}
use Rattle.pdo_links.specs.VendorWrites.{configured, pdo_writes}
use Rattle.pdo_links.proofs.Numbered.{append_none}

-- what switches a PDO off, its settings, and what switches it on
pub joined : (device : AsMade) (object cob : ℕ) (settings : List Write) (mapping : List Mapped) (zero one two three : List Write)
    → one ≡ zero ++ (if is_open device object then cob_write object (off_bit + cob) ∷ [] else [])
    → two ≡ one ++ settings
    → three ≡ two ++ (if is_open device object
    then (if writes_mapping device object (length mapping) then mapping_writes (mapping_object object) mapping else [])
    ++ cob_write object cob ∷ [] else [])
    → three ≡ zero ++ pdo_writes device object cob settings mapping
unfolding pdo_writes
joined device object cob settings mapping zero one two three off set on = by (is_open device object) off on
  where
    items : List Write
    items = if writes_mapping device object (length mapping) then mapping_writes (mapping_object object) mapping else []

    by : (b : Bool) → one ≡ zero ++ (if b then cob_write object (off_bit + cob) ∷ [] else [])
        → three ≡ two ++ (if b then items ++ cob_write object cob ∷ [] else [])
        → three ≡ zero ++ (if b then configured object cob settings items else settings)
    by true off on =
        on
        ∙ ap (λ (ws : List Write). ws ++ (items ++ cob_write object cob ∷ []))
        (set ∙ ap (λ (ws : List Write). ws ++ settings) off
        ∙ append_assoc zero (cob_write object (off_bit + cob) ∷ []) settings)
        ∙ append_assoc zero (cob_write object (off_bit + cob) ∷ settings) (items ++ cob_write object cob ∷ [])
        ∙ ap (λ (ws : List Write). zero ++ cob_write object (off_bit + cob) ∷ ws)
        (sym (append_assoc settings items (cob_write object cob ∷ [])))
    by false off on =
        on ∙ append_none two ∙ set ∙ ap (λ (ws : List Write). ws ++ settings) (off ∙ append_none zero)
