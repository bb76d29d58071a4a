-- Replies that are put out one after the other, and sent.
use Rattle.std.proofs.Common.{◌≡◌, ℕ, true, List, [], ◌++◌, Option, Result, Ok, Err, refl, sym, ap, subst, ◌∙◌}
use Rattle.std.proofs.Common.{append_assoc, append-nil}
use Rattle.std.specs.Prelude.{OnOk, IfErr}
use Rattle.std.specs.List.{concat}
use Rattle.std.specs.Io.KnownBytes.{Appends}
use Rattle.std.proofs.KnownBytes.{Appends-trans}
use Rattle.std.proofs.lemmas.Result.{on_ok_weaker}
use Rattle.streams.specs.declared.fault.SessionFault.{SessionFault}
use Rattle.streams.specs.declared.fault.SessionFault.TheVariants.{Memory, Read, Write}
use Rattle.streams.specs.declared.outlet.Outlet.{Ghosts as Outlet}
use Rattle.streams.specs.Streams.{OneFailed}
use Rattle.streams.specs.Written.{Took, Posts}
use Rattle.streams.proofs.Posted.{posts_none, sent_front}
use Rattle.workbench.specs.Written.{Puts, PostsFirst, WroteAll, WroteFirst}
use Rattle.workbench.proofs.Runs.{posts_replies, posts_front_of, took_first, front_more}

-- ---- one result, one fault

pub same_fault : {X Y : Type 0} (r : Result X SessionFault) (t : Result Y SessionFault) (f g : SessionFault) → r ≡ Err f
    → t ≡ Err f → r ≡ Err g → t ≡ Err g
same_fault r t f g e u h = cc

pub ok_is_no_err : {X : Type 0} (x : X) (f : SessionFault) → Ok x ≡ Err f → ⊥
ok_is_no_err x f h = cc

module _ {X : Type 0} (r : Result X SessionFault) where
  pub fault_is : (e f : SessionFault) → r ≡ Err e → e ≡ f → r ≡ Err f
  fault_is e f h k = cc

  pub one_fault : (e f : SessionFault) → r ≡ Err e → r ≡ Err f → e ≡ f
  one_fault e f h k = cc

  pub memory_is_not_write : r ≡ Err Memory → r ≡ Err Write → ⊥
  memory_is_not_write h k = cc

  pub memory_is_not_read : r ≡ Err Memory → r ≡ Err Read → ⊥
  memory_is_not_read h k = cc

  pub write_is_not_read : r ≡ Err Write → r ≡ Err Read → ⊥
  write_is_not_read h k = cc

-- nothing is said of a value where there is none
pub no_value : {X : Type 0} (r : Result X SessionFault) (f : SessionFault) (P : Type 0) → r ≡ Err f → OnOk r P
no_value (Ok x) f P e = absurd (ok_is_no_err x f e)
no_value (Err g) f P e = tt

-- ---- replies one after the other

-- they were put out
abbrev pub HasPut : {W : Type 0} → Outlet W → W → List ℕ → W → List ℕ → List (List ℕ) → Type 0
HasPut outlet old waited new waits replies = Puts {X = Unit {0}} outlet old waited new waits replies (Ok tt)

pub puts_nothing : {W : Type 0} (outlet : Outlet W) (u : W) (a : List ℕ) → HasPut outlet u a u a []
puts_nothing outlet u a = record {
  ok = posts_none (outlet.contents u) a;
  memory = λ h. absurd (ok_is_no_err tt Memory h);
  write = λ h. absurd (ok_is_no_err tt Write h);
  quiet = λ _. refl;
  flushed = λ _ f. f;
  never_read = ok_is_no_err tt Read;
}

module _ {W X : Type 0} (outlet : Outlet W) where
  -- memory ran out before the others
  pub puts_cut : (u v : W) (a b : List ℕ) (rs more : List (List ℕ)) (r : Result X SessionFault)
      → HasPut outlet u a v b rs → r ≡ Err Memory → Puts outlet u a v b (rs ++ more) r
  puts_cut u v a b rs more r put e = record {
    ok = no_value r Memory _ e;
    memory = λ _. (rs, more, refl, put.ok);
    write = λ h. absurd (memory_is_not_write r e h);
    quiet = λ _. put.quiet (ok_is_no_err tt Write);
    flushed = λ _. put.flushed (ok_is_no_err tt Write);
    never_read = memory_is_not_read r e;
  }

  -- some were put out, and then others
  pub puts_then : (u v w : W) (a b c : List ℕ) (rs qs : List (List ℕ)) (r : Result X SessionFault)
      → HasPut outlet u a v b rs → Puts outlet v b w c qs r → Puts outlet u a w c (rs ++ qs) r
  puts_then u v w a b c rs qs r first next =
      let before : outlet.failures v ≡ outlet.failures u = first.quiet (ok_is_no_err tt Write) in
      let p = outlet.contents u in
      let q = outlet.contents v in
      let s = outlet.contents w in record {
        ok = on_ok_weaker r (λ h. posts_replies p q s a b c rs qs first.ok h) next.ok;
        memory = λ e.
            let some = next.memory e in (
              rs ++ some.0,
              some.1,
              ap (λ (t : List (List ℕ)). rs ++ t) some.2 ∙ sym (append_assoc rs some.0 some.1),
              posts_replies p q s a b c rs some.0 first.ok some.3,
            );
        write = λ e.
            let failed = next.write e in (
              subst (λ n. OneFailed n (outlet.failures w)) before failed.0,
              posts_front_of p q s a b rs qs first.ok failed.1,
            );
        quiet = λ h. next.quiet h ∙ before;
        flushed = λ h f. next.flushed h (first.flushed (ok_is_no_err tt Write) f);
        never_read = next.never_read;
      }

  -- the first of them failed
  pub puts_failed : {Y : Type 0} (u v : W) (a b : List ℕ) (rs more : List (List ℕ)) (t : Result Y SessionFault)
      (r : Result X SessionFault) (f : SessionFault) → Puts outlet u a v b rs t → t ≡ Err f → r ≡ Err f
      → Puts outlet u a v b (rs ++ more) r
  puts_failed u v a b rs more t r f put e g = record {
    ok = no_value r f _ g;
    memory = λ h.
        let some = put.memory (same_fault r t f Memory g e h) in (
          some.0,
          some.1 ++ more,
          ap (λ (q : List (List ℕ)). q ++ more) some.2 ∙ append_assoc some.0 some.1 more,
          some.3,
        );
    write = λ h.
        let failed = put.write (same_fault r t f Write g e h) in
        (failed.0, took_first (outlet.contents u) (outlet.contents v) a rs more failed.1);
    quiet = λ h. put.quiet (λ k. h (same_fault t r f Write e g k));
    flushed = λ h. put.flushed (λ k. h (same_fault t r f Write e g k));
    never_read = λ h. put.never_read (same_fault r t f Read g e h);
  }

  pub puts_as : {Y : Type 0} (u v : W) (a b : List ℕ) (rs : List (List ℕ)) (t : Result Y SessionFault)
      (r : Result X SessionFault) (f : SessionFault) → Puts outlet u a v b rs t → t ≡ Err f → r ≡ Err f
      → Puts outlet u a v b rs r
  puts_as u v a b rs t r f put e g =
      subst (λ qs. Puts outlet u a v b qs r) (append-nil rs) (puts_failed u v a b rs [] t r f put e g)

-- ---- what waits is sent, where nothing waited before

-- all of it
pub sent_all : (p q s : Option (List ℕ)) (b t : List ℕ) → Posts p [] q b t → Appends q s b → Posts p [] s [] t
sent_all p q s b t put sent = (put.0 ++ b, put.1 ∙ sym (append-nil (put.0 ++ b)), Appends-trans p q s put.0 b put.2 sent)

module _ {W : Type 0} (outlet : Outlet W) (u v w : W) (a b : List ℕ) (rs : List (List ℕ)) where
  pub puts_sent : (r : Result (Unit {0}) SessionFault) → HasPut outlet u a v b rs → a ≡ []
      → OnOk r (Appends (outlet.contents v) (outlet.contents w) b) → OnOk r (outlet.failures w ≡ outlet.failures v)
      → OnOk r (outlet.flushed v ≡ true → outlet.flushed w ≡ true)
      → IfErr r (λ e. (e ≡ Write) × OneFailed (outlet.failures v) (outlet.failures w)
      × Took (outlet.contents v) (outlet.contents w) b) → Puts outlet u [] w [] rs r
  puts_sent (Ok x) put none sent quiet flushed write =
      let first = subst (λ t. HasPut outlet u t v b rs) none put in record {
        ok = sent_all (outlet.contents u) (outlet.contents v) (outlet.contents w) b (concat rs) first.ok sent;
        memory = λ h. absurd (ok_is_no_err x Memory h);
        write = λ h. absurd (ok_is_no_err x Write h);
        quiet = λ _. quiet ∙ first.quiet (ok_is_no_err tt Write);
        flushed = λ _ f. flushed (first.flushed (ok_is_no_err tt Write) f);
        never_read = ok_is_no_err x Read;
      }
  puts_sent (Err e) put none sent quiet flushed write =
      let first = subst (λ t. HasPut outlet u t v b rs) none put in
      let is = fault_is {X = Unit {0}} (Err e) e Write refl write.0 in record {
        ok = tt;
        memory = λ h. absurd (memory_is_not_write (Err e) h is);
        write = λ _. (
          subst (λ n. OneFailed n (outlet.failures w)) (first.quiet (ok_is_no_err tt Write)) write.1,
          sent_front (outlet.contents u) (outlet.contents v) (outlet.contents w) [] b (concat rs) refl first.ok write.2,
        );
        quiet = λ h. absurd (h is);
        flushed = λ h f. absurd (h is);
        never_read = write_is_not_read (Err e) is;
      }

  module _ {X Y : Type 0} (t : Result Y SessionFault) (r : Result X SessionFault) (put : Puts outlet u a v b rs t)
      (none : a ≡ []) where
    -- where memory ran out behind the first of them
    pub puts_first_sent : t ≡ Err Memory → r ≡ Err Memory → Appends (outlet.contents v) (outlet.contents w) b
        → outlet.failures w ≡ outlet.failures v → (outlet.flushed v ≡ true → outlet.flushed w ≡ true)
        → Puts outlet u [] w [] rs r
    puts_first_sent is e sent quiet flushed =
        let first = subst (λ x. Puts outlet u x v b rs t) none put in
        let some = first.memory is in record {
          ok = no_value r Memory _ e;
          memory = λ _. (
            some.0,
            some.1,
            some.2,
            sent_all (outlet.contents u) (outlet.contents v) (outlet.contents w) b (concat some.0) some.3 sent,
          );
          write = λ h. absurd (memory_is_not_write r e h);
          quiet = λ _. quiet ∙ first.quiet (memory_is_not_write t is);
          flushed = λ _ f. flushed (first.flushed (memory_is_not_write t is) f);
          never_read = memory_is_not_read r e;
        }

    -- and writing stopped then
    pub puts_first_unsent : t ≡ Err Memory → r ≡ Err Write → OneFailed (outlet.failures v) (outlet.failures w)
        → Took (outlet.contents v) (outlet.contents w) b → Puts outlet u [] w [] rs r
    puts_first_unsent is e failed took =
        let first = subst (λ x. Puts outlet u x v b rs t) none put in
        let some = first.memory is in record {
          ok = no_value r Write _ e;
          memory = λ h. absurd (memory_is_not_write r h e);
          write = λ _. (
            subst (λ n. OneFailed n (outlet.failures w)) (first.quiet (memory_is_not_write t is)) failed,
            front_more (outlet.contents u) (outlet.contents w) rs some.0 some.1 some.2
                (sent_front (outlet.contents u) (outlet.contents v) (outlet.contents w) [] b (concat some.0) refl some.3
                took),
          );
          quiet = λ h. absurd (h e);
          flushed = λ h f. absurd (h e);
          never_read = write_is_not_read r e;
        }

    -- where writing stopped before
    pub puts_stopped : (f : SessionFault) → t ≡ Err f → r ≡ Err f → (f ≡ Memory → ⊥) → Puts outlet u [] v [] rs r
    puts_stopped f e g other =
        let first = subst (λ x. Puts outlet u x v b rs t) none put in record {
          ok = no_value r f _ g;
          memory = λ h. absurd (other (one_fault r f Memory g h));
          write = λ h. first.write (same_fault r t f Write g e h);
          quiet = λ h. first.quiet (λ k. h (same_fault t r f Write e g k));
          flushed = λ h. first.flushed (λ k. h (same_fault t r f Write e g k));
          never_read = λ h. first.never_read (same_fault r t f Read g e h);
        }

-- ---- in words of what was written

pub wrote_all : (p s : Option (List ℕ)) (rs : List (List ℕ)) → Posts p [] s [] (concat rs) → WroteAll p s rs
wrote_all p s rs put = subst (Appends p s) (sym (put.1 ∙ append-nil put.0)) put.2

pub wrote_first : (p s : Option (List ℕ)) (rs : List (List ℕ)) → PostsFirst p [] s [] rs → WroteFirst p s rs
wrote_first p s rs put = (put.0, put.1, put.2, wrote_all p s put.0 put.3)
