-- Numbers behind a pointer that copies share.
use Rattle.std.specs.Prelude.{ℕ, List, [], Option, None, Some}
use Rattle.std.specs.declared.rc.Rc.{Rc}
use Rattle.std.specs.declared.alloc.Global.{Global}

-- the numbers; none where there is no pointer
abbrev pub numbers_behind : Option (Rc (List ℕ) Global) → List ℕ
numbers_behind (Some pointer) = pointer.value
numbers_behind None = []
