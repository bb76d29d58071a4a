-- The replies at the end of the input: those to a last line, and then to an open block.
use Rattle.std.proofs.Common.{◌≡◌, ℕ, List, ◌++◌, Result, Err, subst}
use Rattle.streams.specs.declared.fault.SessionFault.{SessionFault}
use Rattle.streams.specs.declared.outlet.Outlet.{Ghosts as Outlet}
use Rattle.workbench.specs.Replies.{After, cut_off}
use Rattle.workbench.specs.Machine.{Cursor, last_line, at_end}
use Rattle.workbench.specs.Written.{Puts}
use Rattle.workbench.proofs.PutReplies.{HasPut, puts_failed, puts_then}

module _ {W X : Type 0} (outlet : Outlet W) where
  -- those to the last line failed
  pub last_failed : {Y : Type 0} (u v : W) (a b : List ℕ) (s : Cursor) (last : After Cursor) → last ≡ last_line s
      → (t : Result Y SessionFault) (r : Result X SessionFault) (f : SessionFault)
      → Puts outlet u a v b last.replies t → t ≡ Err f → r ≡ Err f → Puts outlet u a v b (at_end s) r
  unfolding at_end
  last_failed u v a b s last is t r f put e g =
      subst (λ (l : After Cursor). Puts outlet u a v b (l.replies ++ cut_off l.state.state.block) r) is
      (puts_failed outlet u v a b last.replies (cut_off last.state.state.block) t r f put e g)

  pub last_then : (u v w : W) (a b c : List ℕ) (s : Cursor) (last : After Cursor) → last ≡ last_line s
      → (others : List (List ℕ)) → others ≡ cut_off last.state.state.block → (r : Result X SessionFault)
      → HasPut outlet u a v b last.replies → Puts outlet v b w c others r → Puts outlet u a w c (at_end s) r
  unfolding at_end
  last_then u v w a b c s last is others are r first next =
      subst (λ (l : After Cursor). Puts outlet u a w c (l.replies ++ cut_off l.state.state.block) r) is
      (puts_then outlet u v w a b c last.replies (cut_off last.state.state.block) r first
      (subst (λ qs. Puts outlet v b w c qs r) are next))
