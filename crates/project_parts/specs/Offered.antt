-- The inputs of parts as they lie in a project, as contracts see them.
use Rattle.project_parts.specs.declared.concise_from.ConciseFrom.{ConciseFrom}
use Rattle.project_parts.specs.declared.concise_now.ConciseNow.{ConciseNow}
use Rattle.project_parts.specs.declared.dcf_from.DcfFrom.{DcfFrom}
use Rattle.project_parts.specs.declared.dcf_now.DcfNow.{DcfNow}
use Rattle.project_parts.specs.declared.plan_from.PlanFrom.{PlanFrom}
use Rattle.project_parts.specs.declared.plan_now.PlanNow.{PlanNow}
use Rattle.project_parts.specs.declared.writes_from.WritesFrom.{WritesFrom}
use Rattle.project_parts.specs.declared.writes_now.WritesNow.{WritesNow}
use Rattle.project_parts.specs.Written.{DeviceWithWrites}

abbrev pub offered_plan : PlanNow → PlanFrom
offered_plan o = record {
  is_three = o.is_three;
  controller = o.controller;
  devices = o.devices;
  messages = o.messages.now;
}

abbrev pub offered_writes : WritesNow → WritesFrom
offered_writes o = record {
  is_three = o.is_three;
  plan = o.plan;
  params = o.params.now;
  device = o.device;
  node = o.node;
}

abbrev pub offered_concise : ConciseNow → ConciseFrom
offered_concise o = record { writes = o.writes }

abbrev pub offered_dcf : DcfNow → DcfFrom
offered_dcf o = record {
  device = o.written.device;
  name = o.name.now;
  rate = o.rate;
  writes = o.written.writes;
  node = o.node;
}

-- what the concise DCF is built from, where a node is written this
abbrev pub concise_by : DeviceWithWrites → ConciseFrom
concise_by w = record { writes = w.writes }
