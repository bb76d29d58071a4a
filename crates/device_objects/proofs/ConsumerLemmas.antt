-- When heartbeat consumers fail.
use Rattle.std.proofs.Common.{◌≡◌, ◌≢◌, ℕ, ◌+◌, ◌*◌, ◌==◌, ◌++◌, Bool, true, false, List, [], ◌∷◌, Option, Some, None}
use Rattle.std.proofs.Common.{map, refl, sym, ap, ◌∙◌, arith}
use Rattle.std.specs.Prelude.{if◌then◌else◌}
use Rattle.std.specs.List.{AllByRecursion}
use Rattle.std.proofs.lemmas.Bool.Decides.{nat_tests}
use Rattle.cia301.specs.ConsumerHeartbeatTimes.{consumer_time}
use Rattle.co_dict.specs.Shapes.{Shaped}
use Rattle.co_dict.specs.Values.{Values}
use Rattle.base.specs.Moments.{is_due, moments_of}
use Rattle.device_objects.specs.Consumers.{consumers_after_time, consumers_after_heartbeat, consumer_entry}
use Rattle.device_objects.specs.Consumers.{consumers_of, consumers_after_write, expects}
use Rattle.device_objects.specs.Consumers.{consumer_after_time, failures_at, consumer_after_heartbeat, moments}
use Rattle.device_objects.specs.Consumers.{consumer_after_write, waiting_for_start}
use Rattle.device_objects.specs.declared.consumer.Consumer.{Consumer}

same_test : (t : ℕ) → (t == t) ≡ true
same_test t = grind (arith, nat_tests)

passed_test : (m t : ℕ) → (m == t) ≡ true → m ≡ t
passed_test m t e = grind (arith, nat_tests)

other_test : (m t : ℕ) → m ≢ t → (m == t) ≡ false
other_test m t other = by (m == t) refl
  where
    by : (test : Bool) → (m == t) ≡ test → test ≡ false
    by false e = refl
    by true e = absurd (other (passed_test m t e))

unequal : {A : Type 0} (b : Bool) → b ≡ false → b ≡ true → A
unequal b e h = absurd cc

-- ---- its moment

pub fails_then : (t : ℕ) (c : Consumer) → c.moment ≡ Some t → (consumer_after_time t c).failed ≡ true
fails_then t c e = rw (e, same_test t) refl

due_is : (t : ℕ) (moment : Option ℕ) → is_due t moment ≡ true → moment ≡ Some t
due_is t None e = absurd cc
due_is t (Some m) e = ap (λ (n : ℕ). Some n) (passed_test m t e)

pub fails_only_then : (t : ℕ) (c : Consumer) → c.failed ≡ false → (consumer_after_time t c).failed ≡ true
    → c.moment ≡ Some t
fails_only_then t c not fails = by (is_due t c.moment) refl fails
  where
    by : (test : Bool) → is_due t c.moment ≡ test
        → (if test then record c { moment = None; failed = true } else c).failed ≡ true → c.moment ≡ Some t
    by true e h = due_is t c.moment e
    by false e h = absurd cc

-- ---- who was heard

one_heard : (t producer : ℕ) (c : Consumer) → expects producer (consumer_after_heartbeat t producer c).entry ≡ true
    → (consumer_after_heartbeat t producer c).failed ≡ false
one_heard t producer c = by (expects producer c.entry) refl
  where
    after : Bool → Consumer
    after test = if test then record c { moment = Some (t + 1000 * consumer_time c.entry); failed = false } else c

    by : (test : Bool) → expects producer c.entry ≡ test → expects producer (after test).entry ≡ true
        → (after test).failed ≡ false
    by true e h = refl
    by false e h = absurd cc

pub none_failed : (t producer : ℕ) (consumers : List Consumer)
    → AllByRecursion (λ c. expects producer c.entry ≡ true → c.failed ≡ false)
    (consumers_after_heartbeat t producer consumers)
unfolding consumers_after_heartbeat
none_failed t producer [] = tt
none_failed t producer (c ∷ consumers) = (one_heard t producer c, none_failed t producer consumers)

-- ---- the value that one goes by

each_goes_by : (values : Values) (subs : List ℕ)
    → AllByRecursion (λ (c : Consumer). c.entry ≡ consumer_entry values c.sub) (map (waiting_for_start values) subs)
each_goes_by values [] = tt
each_goes_by values (sub ∷ subs) = (refl, each_goes_by values subs)

pub all_go_by : (shape : Shaped) (values : Values)
    → AllByRecursion (λ c. c.entry ≡ consumer_entry values c.sub) (consumers_of shape values)
unfolding consumers_of
all_go_by shape values = each_goes_by values _

one_written : (sub : ℕ) (values : Values) (c : Consumer) → (consumer_after_write sub values c).sub ≡ sub
    → (consumer_after_write sub values c).entry ≡ consumer_entry values sub
one_written sub values c = by (c.sub == sub) refl
  where
    by : (test : Bool) → (c.sub == sub) ≡ test → (if test then waiting_for_start values sub else c).sub ≡ sub
        → (if test then waiting_for_start values sub else c).entry ≡ consumer_entry values sub
    by true e h = refl
    by false e h = unequal (sub == sub) (ap (λ (n : ℕ). n == sub) (sym h) ∙ e) (same_test sub)

pub written_goes_by : (sub : ℕ) (values : Values) (consumers : List Consumer)
    → AllByRecursion (λ c. c.sub ≡ sub → c.entry ≡ consumer_entry values sub)
    (consumers_after_write sub values consumers)
unfolding consumers_after_write
written_goes_by sub values [] = tt
written_goes_by sub values (c ∷ consumers) = (one_written sub values c, written_goes_by sub values consumers)

-- ---- not due

-- the consumers have moments that aren't t, or none
abbrev NoneDue : ℕ → List Consumer → Type 0
NoneDue t consumers = AllByRecursion (λ c. is_due t c.moment ≡ false) consumers

no_count : (t : ℕ) (consumers : List Consumer) → NoneDue t consumers → failures_at t consumers ≡ 0
unfolding failures_at
no_count t [] none = refl
no_count t (c ∷ consumers) none = rw none.0 (no_count t consumers none.1)

no_change : (t : ℕ) (consumers : List Consumer) → NoneDue t consumers → consumers_after_time t consumers ≡ consumers
unfolding consumers_after_time
no_change t [] none = refl
no_change t (c ∷ consumers) none = rw none.0 (ap (λ cs. c ∷ cs) (no_change t consumers none.1))

not_started : (t : ℕ) (consumers : List Consumer) → AllByRecursion (λ c. c.moment ≡ None) consumers
    → NoneDue t consumers
not_started t [] none = tt
not_started t (c ∷ consumers) none = (ap (is_due t) none.0, not_started t consumers none.1)

pub none_fail : (t : ℕ) (consumers : List Consumer) → AllByRecursion (λ c. c.moment ≡ None) consumers
    → failures_at t consumers ≡ 0
none_fail t consumers none = no_count t consumers (not_started t consumers none)

pub none_change : (t : ℕ) (consumers : List Consumer) → AllByRecursion (λ c. c.moment ≡ None) consumers
    → consumers_after_time t consumers ≡ consumers
none_change t consumers none = no_change t consumers (not_started t consumers none)

each_waits : (values : Values) (subs : List ℕ)
    → AllByRecursion (λ (c : Consumer). c.moment ≡ None) (map (waiting_for_start values) subs)
each_waits values [] = tt
each_waits values (sub ∷ subs) = (refl, each_waits values subs)

pub none_started : (shape : Shaped) (values : Values)
    → AllByRecursion (λ c. c.moment ≡ None) (consumers_of shape values)
unfolding consumers_of
none_started shape values = each_waits values _

elsewhere_first : (t : ℕ) (moment : Option ℕ) (rest : List ℕ) → AllByRecursion (λ m. m ≢ t) (moments_of moment ++ rest)
    → (is_due t moment ≡ false) × AllByRecursion (λ m. m ≢ t) rest
elsewhere_first t None rest none = (refl, none)
elsewhere_first t (Some m) rest none = (other_test m t none.0, none.1)

elsewhere : (t : ℕ) (consumers : List Consumer) → AllByRecursion (λ m. m ≢ t) (moments consumers) → NoneDue t consumers
elsewhere t [] none = tt
elsewhere t (c ∷ consumers) none =
    let first = elsewhere_first t c.moment (moments consumers) none in
    (first.0, elsewhere t consumers first.1)

pub quiet_count : (t : ℕ) (consumers : List Consumer) → AllByRecursion (λ m. m ≢ t) (moments consumers)
    → failures_at t consumers ≡ 0
quiet_count t consumers none = no_count t consumers (elsewhere t consumers none)

pub quiet_kept : (t : ℕ) (consumers : List Consumer) → AllByRecursion (λ m. m ≢ t) (moments consumers)
    → consumers_after_time t consumers ≡ consumers
quiet_kept t consumers none = no_change t consumers (elsewhere t consumers none)
