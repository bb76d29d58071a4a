use Rattle.std.proofs.Common.{◌≡◌, take}
use Rattle.eds_device.specs.Common.{with_defaults}
use Rattle.eds_device.proofs.data_sheet.DataSheet.add_defaults.Given as goal

abbrev pub invariant-loop-place : goal.invariant-loop-place
invariant-loop-place l = l.dict ≡ with_defaults l.self l.node (take l.place-index l.places) l.fn.dict
