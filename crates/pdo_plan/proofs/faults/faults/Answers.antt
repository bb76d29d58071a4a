use Rattle.std.proofs.Common.{◌≡◌, not, [], ◌∷◌, nat_lt, ap, ◌∙◌}
use Rattle.cia301.specs.TransmissionTypes.{is_reserved, type_of_byte}
use Rattle.pdo_plan.specs.declared.message_fault.MessageFault.TheVariants.{NoObjects, TpdoTaken, TooManyBits}
use Rattle.pdo_plan.specs.declared.message_fault.MessageFault.TheVariants.{NotMappable, Mismatched, NoRpdo, NoDummy}
use Rattle.pdo_plan.specs.declared.message_fault.MessageFault.TheVariants.{BadIdentifier, NoIdentifier, ReservedType}
use Rattle.pdo_plan.specs.Plan.{faults_that_hold}
use Rattle.pdo_choices.specs.Taken.{devices_known, had_in}
use Rattle.pdo_plan.proofs.FaultLemmas.{tested, tested_are}
use Rattle.pdo_plan.proofs.faults.faults.Goals as goal

pub returns : goal.returns
returns c =
    let had = had_in c.args.taken.now in
    let devices = devices_known c.args.taken.now in
    let m = c.args.wish.now.linked.now in
    let reserved : c.is_reserved.result ≡ is_reserved (type_of_byte c.args.wish.now.linked.now.message.transmission) =
    c.is_reserved.ensures ∙ ap is_reserved c.of.ensures in
    let tests : faults_that_hold ((not c.has_objects.result, NoObjects) ∷ (c.contains.result, TpdoTaken)
    ∷ (nat_lt 64 c.total_bits.result, TooManyBits) ∷ (c.entry_faults-entries.result.unmappable, NotMappable)
    ∷ (c.entry_faults-entries.result.mismatched, Mismatched) ∷ (c.lacks_rpdo.result, NoRpdo) ∷ (c.lacks_any_dummy.result, NoDummy)
    ∷ (c.is_bad.result, BadIdentifier)
    ∷ (c.lacks_identifier.result, NoIdentifier) ∷ (c.is_reserved.result, ReservedType) ∷ [])
    ≡ tested had devices m c.args.wish.now.carried.now c.args.wish.now.identifier c.args.consumers.now c.args.has_identifier =
    λ i. faults_that_hold ((not (c.has_objects.ensures i), NoObjects) ∷ (c.contains.ensures i, TpdoTaken)
    ∷ (nat_lt 64 (c.total_bits.ensures i), TooManyBits) ∷ (c.entry_faults-entries.ensures.unmappable i, NotMappable)
    ∷ (c.entry_faults-entries.ensures.mismatched i, Mismatched) ∷ (c.lacks_rpdo.ensures i, NoRpdo) ∷ (c.lacks_any_dummy.ensures i, NoDummy)
    ∷ (c.is_bad.ensures i, BadIdentifier)
    ∷ (c.lacks_identifier.ensures i, NoIdentifier) ∷ (reserved i, ReservedType) ∷ []) in
    let all = tests
    ∙ tested_are had devices m c.args.wish.now.carried.now c.args.wish.now.identifier c.args.consumers.now
    c.args.has_identifier c.requires.sources c.requires.sought c.requires.consumers c.requires.identifier in
    c.from_vec.ensures ∙ c.in_ok-faults.ensures ∙ all
