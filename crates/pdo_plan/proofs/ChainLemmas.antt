-- The clean messages of a plan, each with those before it.
use Rattle.std.proofs.Common.{◌≡◌, ℕ, zero, suc, ◌<◌, Bool, true, false, ◌||◌, List, [], ◌∷◌, ◌++◌, take, append_assoc}
use Rattle.std.proofs.Common.{Some, refl, sym, ap, subst, ◌∙◌, arith}
use Rattle.std.specs.Bool.{⊤}
use Rattle.std.specs.List.{list_any, slice_get, cons_option, All, AllByRecursion}
use Rattle.std.proofs.lemmas.List.{append-nil}
use Rattle.std.proofs.lemmas.List.Elements.{All-head, All-tail, All-from_recursion}
use Rattle.project_messages.specs.declared.linked.Linked.{Linked}
use Rattle.project_messages.specs.Messages.{IsLinked}
use Rattle.pdo_choices.specs.declared.clean.Clean.{Clean}
use Rattle.pdo_plan.specs.declared.outcome.Outcome.{Outcome}
use Rattle.pdo_plan.specs.declared.outcome.Outcome.TheVariants.{Planned, Faulty}
use Rattle.pdo_stations.specs.Devices.{Devices}
use Rattle.pdo_choices.specs.Had.{Withheld, had_by, withheld_by}
use Rattle.pdo_plan.specs.Plan.{judged_message, clean_of, clean, plan_after, plan_of}

-- each is so after those before it
abbrev pub Each : (List Clean → Clean → Type 0) → List Clean → List Clean → Type 0
Each P before [] = ⊤
Each P before (c ∷ cs) = P before c × Each P (before ++ c ∷ []) cs

abbrev OfLinked : List ℕ × Linked → Type 0
OfLinked e = IsLinked e.1

-- what holds of a message that is judged clean
abbrev pub Clearly : Devices → (List Clean → Clean → Type 0) → Type 0
Clearly devices P = (withheld : Withheld) (before : List Clean) (m : Linked) (c : Clean)
    → judged_message (had_by withheld before) devices m ≡ Planned c → P before c

-- and of one within its limits
abbrev pub WithinLimits : Devices → (List Clean → Clean → Type 0) → Type 0
WithinLimits devices P = (withheld : Withheld) (before : List Clean) (m : Linked) (c : Clean) → IsLinked m
    → judged_message (had_by withheld before) devices m ≡ Planned c → P before c

module _ (devices : Devices) (P : List Clean → Clean → Type 0) where
  each_after : Clearly devices P → (withheld : Withheld) (before : List Clean) (ms : List (List ℕ × Linked))
      → Each P before (clean (plan_after withheld devices before ms))
  each_after holds withheld before [] = tt
  each_after holds withheld before (m ∷ ms) =
      by (judged_message (had_by withheld before) devices m.1) refl (λ said. each_after holds withheld (before ++ said) ms)
    where
      by : (o : Outcome) → judged_message (had_by withheld before) devices m.1 ≡ o
          → ((said : List Clean) → Each P (before ++ said) (clean (plan_after withheld devices (before ++ said) ms)))
          → Each P before (cons_option (clean_of o)
          (clean (plan_after withheld devices (before ++ cons_option (clean_of o) []) ms)))
      by (Planned c) e rest = (holds withheld before m.1 c e, rest (c ∷ []))
      by (Faulty fs) e rest = subst (λ (cs : List Clean). Each P cs (clean (plan_after withheld devices (before ++ []) ms)))
          (append-nil before) (rest [])

  within_after : WithinLimits devices P → (withheld : Withheld) (before : List Clean) (ms : List (List ℕ × Linked)) → All OfLinked ms
      → Each P before (clean (plan_after withheld devices before ms))
  within_after holds withheld before [] kept = tt
  within_after holds withheld before (m ∷ ms) kept =
      by (judged_message (had_by withheld before) devices m.1) refl
      (λ said. within_after holds withheld (before ++ said) ms (All-tail OfLinked m ms kept))
    where
      by : (o : Outcome) → judged_message (had_by withheld before) devices m.1 ≡ o
          → ((said : List Clean) → Each P (before ++ said) (clean (plan_after withheld devices (before ++ said) ms)))
          → Each P before (cons_option (clean_of o)
          (clean (plan_after withheld devices (before ++ cons_option (clean_of o) []) ms)))
      by (Planned c) e rest = (holds withheld before m.1 c (All-head OfLinked m ms kept) e, rest (c ∷ []))
      by (Faulty fs) e rest = subst (λ (cs : List Clean). Each P cs (clean (plan_after withheld devices (before ++ []) ms)))
          (append-nil before) (rest [])

  pub each_clean : Clearly devices P → (ms : List (List ℕ × Linked)) → Each P [] (clean (plan_of devices ms))
  unfolding plan_of
  each_clean holds ms = each_after holds (withheld_by devices ms) [] ms

  pub each_within : WithinLimits devices P → (ms : List (List ℕ × Linked)) → All OfLinked ms
      → Each P [] (clean (plan_of devices ms))
  unfolding plan_of
  each_within holds ms kept = within_after holds (withheld_by devices ms) [] ms kept

  from_place : (before cs : List Clean) (k : ℕ) (c : Clean) → Each P before cs → slice_get cs k ≡ Some c
      → P (before ++ take k cs) c
  from_place before [] k c each e = cc
  from_place before (d ∷ cs) zero c each e =
      let same : d ≡ c = cc in
      subst (λ (x : List Clean). P x c) (sym (append-nil before)) (subst (P before) same each.0)
  from_place before (d ∷ cs) (suc k) c each e = subst (λ (x : List Clean). P x c)
      (append_assoc before (d ∷ []) (take k cs)) (from_place (before ++ d ∷ []) cs k c each.1 e)

  -- at each place, after those before it
  pub at_place : (cs : List Clean) (k : ℕ) (c : Clean) → Each P [] cs → slice_get cs k ≡ Some c → P (take k cs) c
  at_place cs k c each e = from_place [] cs k c each e

-- what holds of each wherever it stands holds of all
all_each : (P : Clean → Type 0) (before cs : List Clean) → Each (λ before c. P c) before cs → AllByRecursion P cs
all_each P before [] each = tt
all_each P before (c ∷ cs) each = (each.0, all_each P (before ++ c ∷ []) cs each.1)

pub all_clean : (P : Clean → Type 0) (cs : List Clean) → Each (λ before c. P c) [] cs → All P cs
all_clean P cs each = All-from_recursion P cs (all_each P [] cs each)

or_true : (a b : Bool) → b ≡ true → a || b ≡ true
or_true true b e = refl
or_true false b e = e

-- what an earlier one has is had
pub had_earlier : (p : Clean → Bool) (cs : List Clean) (i j : ℕ) (c : Clean) → i < j → slice_get cs i ≡ Some c
    → p c ≡ true → list_any p (take j cs) ≡ true
had_earlier p [] i j c lt e t = cc
had_earlier p (d ∷ cs) zero zero c lt e t = absurd (omega arith)
had_earlier p (d ∷ cs) (suc i) zero c lt e t = absurd (omega arith)
had_earlier p (d ∷ cs) zero (suc j) c lt e t = let same : d ≡ c = cc
    in ap (λ b. b || list_any p (take j cs)) (ap p same ∙ t)
had_earlier p (d ∷ cs) (suc i) (suc j) c lt e t = or_true (p d) (list_any p (take j cs))
    (had_earlier p cs i j c (omega arith) e t)
