-- What becomes of a handle whose value is borrowed to be changed.
use denote.RattleType.{RattleType}
use Rattle.std.specs.Borrow.{Fml, MutBor}
use Rattle.std.specs.Prelude.{Result}
use Rattle.std.specs.Rc.{rc_follows_make_mut}
use Rattle.std.specs.declared.rc.Rc.{Rc}
use Rattle.std.specs.declared.alloc.Global.{Global}
use Rattle.std.specs.contracts.alloc.Global as global
use Rattle.std.specs.contracts.impls.GlobalAllocator.TheImpl.{ghosts}

-- the handle ends with what the borrower leaves; where nothing is borrowed, with its value or a copy of it
abbrev pub LendsUnshared : (R : RattleType) → (R.Denot → R.Denot → Type 0) → MutBor (Rc R.Denot Global) → {E : Type 0} → Result (MutBor R.Denot) E → Fml
LendsUnshared R is_clone handle result = rc_follows_make_mut R global.the_row ghosts is_clone handle result
