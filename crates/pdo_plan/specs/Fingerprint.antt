-- Numbers that tell plans apart: plans with other fingerprints are other plans. They are this program's own, and no
-- contract of a public call shows one.
use Rattle.std.specs.Prelude.{ℕ, List, length}
use Rattle.std.specs.List.{fold}
use Rattle.base.specs.Fingerprint.{mix}
use Rattle.project_messages.specs.declared.message.Message.{Message}
use Rattle.pdo_choices.specs.declared.clean.Clean.{Clean}
use Rattle.pdo_choices.specs.declared.consumer.Consumer.{Consumer}
use Rattle.pdo_plan.specs.declared.outcome.Outcome.{Outcome}
use Rattle.pdo_plan.specs.declared.outcome.Outcome.TheVariants.{Planned, Faulty}
use Rattle.pdo_plan.specs.declared.planned_message.PlannedMessage.{PlannedMessage}
use Rattle.pdo_stations.specs.declared.mapped.Mapped.{Mapped}

-- with a mapping entry, a consumer, a message
abbrev pub with_mapped : ℕ → Mapped → ℕ
with_mapped fingerprint m = mix (mix (mix fingerprint m.index) m.sub) m.bits

abbrev pub with_consumer : ℕ → Consumer → ℕ
with_consumer fingerprint k = fold with_mapped (mix (mix (mix fingerprint k.node) k.rpdo) k.event) k.mapping

abbrev pub with_message : ℕ → Message → ℕ
with_message fingerprint m =
    mix (mix (mix (mix (mix (mix fingerprint m.node) m.tpdo) m.transmission) m.inhibit) m.event) m.cob

abbrev pub with_clean : ℕ → Clean → ℕ
with_clean fingerprint c =
    fold with_consumer
    (fold with_mapped (mix (mix (with_message fingerprint c.message) c.start) c.identifier) c.mapping) c.consumers

-- of faults their number
abbrev pub with_outcome : ℕ → Outcome → ℕ
with_outcome fingerprint (Planned c) = with_clean fingerprint c
with_outcome fingerprint (Faulty fs) = mix fingerprint (length fs)

abbrev pub with_planned : ℕ → PlannedMessage → ℕ
with_planned fingerprint p = with_outcome (fold mix fingerprint p.name) p.outcome

unfoldable pub fingerprint_of : List PlannedMessage → ℕ
fingerprint_of plan = fold with_planned 0 plan
