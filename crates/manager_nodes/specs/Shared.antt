-- Nodes behind a pointer that copies share.
use Rattle.std.specs.Prelude.{List, [], Option, None, Some}
use Rattle.std.specs.declared.rc.Rc.{Rc}
use Rattle.std.specs.declared.alloc.Global.{Global}
use Rattle.std.specs.declared.vec.Vec.{Vec}
use Rattle.manager_nodes.specs.declared.booting.Booting.{Booting}

-- the nodes; none where there is no pointer
abbrev pub nodes_behind : Option (Rc (Vec Booting Global) Global) → List Booting
nodes_behind (Some pointer) = pointer.value.items
nodes_behind None = []
