-- What a step queues and notes.
use Rattle.manager_nodes.specs.declared.sent.Sent.{Sent}
use Rattle.node_boot.specs.declared.boot_step.BootStep.{BootStep}

abbrev pub sending_of : BootStep → Sent
sending_of step = record { request = step.request; note = step.note }
