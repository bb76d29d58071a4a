-- The steps of windows: within their window, in order of time, and of the lengths of their entries' types.
use Rattle.std.proofs.Common.{◌≡◌, ℕ, ◌+◌, ◌*◌, ◌≤◌, not, Bool, true, false, List, [], ◌∷◌, Option, Some, None}
use Rattle.std.proofs.Common.{Ok, Err, Contains, length, option_map, option_and_then, filter_map, refl, sym, ap}
use Rattle.std.proofs.Common.{subst, ◌∙◌, ◌<◌, ◌⊎◌, inl, inr, arith}
use Rattle.std.specs.Prelude.{if◌then◌else◌, MatchOption, ◌↔◌, unwrap_or}
use Rattle.std.specs.FinMap.{get}
use Rattle.std.specs.List.{AllByRecursion, cons_option}
use Rattle.std.specs.List.Sorted.{IsStrictlySortedBy}
use Rattle.std.specs.Option.{option_map_or, unwrap_or}
use Rattle.std.specs.Result.{result_ok}
use Rattle.std.specs.Ordering.{nat_cmp, ordering_then}
use Rattle.std.specs.declared.cmp.Ordering.{Ordering}
use Rattle.std.specs.declared.cmp.Ordering.TheVariants.{Less, Equal, Greater}
use Rattle.std.proofs.lemmas.Bool.Decides.{nat_tests}
use Rattle.std.proofs.lemmas.List.Elements.{All-contains_itself, recursion_from_All}
use Rattle.base.proofs.EachLemmas.{each_found}
use Rattle.base.specs.Ranges.{is_between}
use Rattle.pdo_choices.proofs.RangeLemmas.{between}
use Rattle.co_values.specs.Types.{form, is_modelled_form, len_of_form, octets}
use Rattle.co_values.specs.declared.form.Form.{Form}
use Rattle.co_values.specs.declared.form.Width.{Width}
use Rattle.co_values.specs.declared.form.Width.TheVariants.{Bits8, Bits16, Bits24, Bits32, Bits40, Bits48, Bits56, Bits64}
use Rattle.co_values.specs.declared.form.Form.TheVariants.{Flag, Signed, Unsigned, Decimal, Characters, HexPairs}
use Rattle.co_values.specs.declared.form.Form.TheVariants.{Unmodelled}
use Rattle.real_texts.specs.declared.real.Real.TheVariants.{Real32, Real64}
use Rattle.co_values.specs.Values.{longest_value, value, value_in, zero_value}
use Rattle.cia301.specs.PdoObjects.{is_of_pdos}
use Rattle.co_dict.specs.Shapes.{Shaped}
use Rattle.co_dict.specs.Values.{HasLength}
use Rattle.co_dict.specs.declared.entry.Entry.{Entry}
use Rattle.eds_device.proofs.LengthLemmas.{written_length}
use Rattle.node_parameters.specs.declared.parameter_fault.ParameterFault.TheVariants.{NotModelled, Unreadable}
use Rattle.node_parameters.specs.Judgement.{set_bytes, set_bytes_at}
use Rattle.project_edits.specs.Edits.{IsEvent, IsSetting}
use Rattle.node_parameters.proofs.WrittenLemmas.{Contains-filter_map, from_filter_map}
use Rattle.co_project.specs.Project.{Content as Project}
use Rattle.co_project.specs.Sound.{IsEventOf, IsSound}
use Rattle.co_scenario.proofs.BetweenLemmas.{has_exactly, rise}
use Rattle.co_scenario.specs.Scenario.{events_between, moment_cmp, Events, HasEventBetween}
use Rattle.co_scenario.specs.declared.event.Event.{Event}
use Rattle.co_scenario.specs.declared.event.Event.TheVariants as event
use Rattle.co_scenario.specs.declared.step.Step.{Step}
use Rattle.co_scenario.specs.declared.step.Step.TheVariants as step
use Rattle.co_scenario.specs.declared.timed_event.TimedEvent.{TimedEvent}
use Rattle.co_scenario.specs.declared.timed_step.TimedStep.{TimedStep}
use Rattle.image_parts.specs.Contents.{no_shape}
use Rattle.image_parts.specs.Images.{AreInOrder, ComesBefore, FitsShape, IsFree, IsWithin}
use Rattle.network_image.specs.Held.{IsWindow}
use Rattle.project_plan.specs.Events.{bytes_set, set_step, shape_of_node, step_of, Shapes}
use Rattle.network_image.specs.Image.{image_of, window_steps}
use Rattle.network_image.specs.Steps.{IsStepIn, at_moment, steps_in, timed_step_of, unless_none}

-- what holds of each that is picked
pub picked : {X Y : Type 0} (f : X → Option Y) (P : X → Type 0) (Q : Y → Type 0)
    → ((x : X) (y : Y) → P x → f x ≡ Some y → Q y)
    → (xs : List X) → AllByRecursion P xs → AllByRecursion Q (filter_map f xs)
picked f P Q follows [] all = tt
picked {Y = Y} f P Q follows (x ∷ xs) all = by (picked f P Q follows xs all.1) (f x) refl
  where
    by : AllByRecursion Q (filter_map f xs) → (o : Option Y) → f x ≡ o
        → AllByRecursion Q (cons_option o (filter_map f xs))
    by rest None is = rest
    by rest (Some y) is = (follows x y all.0 is, rest)

pub weaker : {X : Type 0} (P Q : X → Type 0) → ((x : X) → P x → Q x) → (xs : List X) → AllByRecursion P xs
    → AllByRecursion Q xs
weaker P Q follows [] all = tt
weaker P Q follows (x ∷ xs) all = (follows x all.0, weaker P Q follows xs all.1)

-- each moment that is listed has its event
pub moments_have_events : (events : Events) (first last : ℕ)
    → AllByRecursion (HasEventBetween first last events) (events_between first last events)
moments_have_events events first last =
    let moments : List (ℕ × ℕ) = events_between first last events in
    weaker (Contains moments) (HasEventBetween first last events)
    (λ m there. (has_exactly first last m events).0 there) moments
    (recursion_from_All (Contains moments) moments (All-contains_itself moments))

-- where a window has no steps, there is nothing to say
pub steps_said : (P : List TimedStep → Type 0) → P [] → (steps : List TimedStep) → P steps
    → P (unwrap_or (unless_none steps) [])
steps_said P none [] are = none
steps_said P none (s ∷ steps) are = are

module _ (shapes : Shapes) (events : Events) where
  -- a step does what the event of its moment does
  record IsStepOf (moment : ℕ × ℕ) (s : TimedStep) : Type 0 where
    number : s.number ≡ moment.1
    time : s.time ≡ moment.0
    event : TimedEvent
    found : get events moment.1 ≡ Some event
    does : step_of shapes event.event ≡ Some s.step

  made : (moment : ℕ × ℕ) (s : TimedStep) → timed_step_of shapes events moment ≡ Some s → IsStepOf moment s
  unfolding timed_step_of
  made moment s is = by (get events moment.1) refl is
    where
      with_event : (e : TimedEvent) → get events moment.1 ≡ Some e → (o : Option Step) → step_of shapes e.event ≡ o
          → option_map (at_moment moment) o ≡ Some s → IsStepOf moment s
      with_event e found None does is = cc
      with_event e found (Some t) does is =
          let same : at_moment moment t ≡ s = cc in
          record {
            number = sym (ap (λ (x : TimedStep). x.number) same);
            time = sym (ap (λ (x : TimedStep). x.time) same);
            event = e;
            found = found;
            does = does
                ∙ ap Some (ap (λ (x : TimedStep). x.step) same);
          }

      by : (o : Option TimedEvent) → get events moment.1 ≡ o
          → option_map (at_moment moment) (option_and_then (λ (e : TimedEvent). step_of shapes e.event) o) ≡ Some s
          → IsStepOf moment s
      by None found is = cc
      by (Some e) found is = with_event e found (step_of shapes e.event) refl is

  -- ---- in order of time

  Ascend : List TimedStep → Type 0
  Ascend [] = Unit {0}
  Ascend (a ∷ rest) = AllByRecursion (ComesBefore a) rest × Ascend rest

  in_order : (steps : List TimedStep) → Ascend steps → AreInOrder steps
  unfolding Ascend
  in_order [] are = tt
  in_order (a ∷ []) are = tt
  in_order (a ∷ b ∷ rest) are = (are.0.0, in_order (b ∷ rest) are.1)

  sooner : (a b : ℕ) → nat_cmp a b ≡ Less → a < b
  sooner a b less = grind (arith, nat_tests)

  at_once : (a b : ℕ) → nat_cmp a b ≡ Equal → a ≡ b
  at_once a b equal = grind (arith, nat_tests)

  -- by time, and at one time by number
  by_moment : (a b : ℕ × ℕ) (o : Ordering) → nat_cmp a.0 b.0 ≡ o → ordering_then o (nat_cmp a.1 b.1) ≡ Less
      → (a.0 < b.0) ⊎ ((a.0 ≡ b.0) × (a.1 < b.1))
  by_moment a b Less is less = inl (sooner a.0 b.0 is)
  by_moment a b Equal is less = inr (at_once a.0 b.0 is, sooner a.1 b.1 less)
  by_moment a b Greater is less = cc

  comes_before : (a b : ℕ × ℕ) → moment_cmp a b ≡ Less → (a.0 < b.0) ⊎ ((a.0 ≡ b.0) × (a.1 < b.1))
  comes_before a b less = by_moment a b (nat_cmp a.0 b.0) refl less

  -- so do the steps of the moments
  steps_come : (a b : TimedStep) (m n : ℕ × ℕ) → a.time ≡ m.0 → a.number ≡ m.1 → b.time ≡ n.0 → b.number ≡ n.1
      → (m.0 < n.0) ⊎ ((m.0 ≡ n.0) × (m.1 < n.1)) → ComesBefore a b
  steps_come a b m n at by there its (inl before) = inl (omega (arith, at, there, before))
  steps_come a b m n at by there its (inr same) =
      let time = same.0 in
      let number = same.1 in
      inr (at ∙ time ∙ sym there, omega (arith, by, its, number))

  ascend : (moments : List (ℕ × ℕ)) → IsStrictlySortedBy moment_cmp moments
      → Ascend (filter_map (timed_step_of shapes events) moments)
  unfolding IsStrictlySortedBy Ascend
  ascend [] rises = tt
  ascend (m ∷ moments) rises = by (ascend moments rises.1) (timed_step_of shapes events m) refl
    where
      rest : List TimedStep
      rest = filter_map (timed_step_of shapes events) moments

      by : Ascend rest → (o : Option TimedStep) → timed_step_of shapes events m ≡ o → Ascend (cons_option o rest)
      by are None is = are
      by are (Some s) is =
          let after : AllByRecursion (ComesBefore s) rest =
          picked (timed_step_of shapes events) (λ n. moment_cmp m n ≡ Less) (ComesBefore s)
          (λ n b less found. let here = made m s is in let there = made n b found
          in steps_come s b m n here.time here.number there.time there.number (comes_before m n less)) moments rises.0
          in
          (after, are)

  pub steps_in_order : (i : ℕ) → AreInOrder (steps_in shapes events i)
  unfolding steps_in
  steps_in_order i = in_order _ (ascend (events_between (10000 * i) (10000 * i + 9999) events)
      (rise events (10000 * i) (10000 * i + 9999)))

  -- ---- within the window, and free

  -- what holds of each step of an event whose time lies in the window
  pub each_step : (P : TimedStep → Type 0) (i : ℕ)
      → ((s : TimedStep) (number : ℕ) (e : TimedEvent) → get events number ≡ Some e
      → step_of shapes e.event ≡ Some s.step → s.time ≡ e.time
      → is_between (10000 * i) (10000 * i + 9999) e.time ≡ true → P s)
      → AllByRecursion P (steps_in shapes events i)
  unfolding steps_in
  each_step P i holds =
      let first : ℕ = 10000 * i in
      let last : ℕ = 10000 * i + 9999 in
      picked (timed_step_of shapes events) (HasEventBetween first last events) P by (events_between first last events)
      (moments_have_events events first last)
    where
      by : (moment : ℕ × ℕ) (s : TimedStep) → HasEventBetween (10000 * i) (10000 * i + 9999) events moment
          → timed_step_of shapes events moment ≡ Some s → P s
      by moment s has is =
          let step = made moment s is in
          let one : Some step.event ≡ Some has.0 = sym step.found ∙ has.1.0 in
          let same : step.event ≡ has.0 = ap (λ o. unwrap_or o has.0) one in
          holds s moment.1 has.0 has.1.0 (ap (λ (e : TimedEvent). step_of shapes e.event) (sym same) ∙ step.does)
          (step.time ∙ sym has.1.1)
          (ap (is_between (10000 * i) (10000 * i + 9999)) has.1.1 ∙ has.1.2)

  -- ---- these, and no others

  its_event : (i : ℕ) (s : TimedStep) → Contains (steps_in shapes events i) s → IsStepIn shapes events i s
  unfolding steps_in
  its_event i s there =
      let first : ℕ = 10000 * i in
      let last : ℕ = 10000 * i + 9999 in
      let from = from_filter_map (timed_step_of shapes events) (events_between first last events) s there in
      let has = (has_exactly first last from.0 events).0 from.1 in
      let step = made from.0 s from.2 in (
        step.event,
        (
          ap (get events) step.number ∙ step.found,
          event_time from.0 has step.event (sym has.1.0 ∙ step.found) ∙ sym step.time,
          step.does,
          ap (is_between first last) step.time ∙ has.1.2,
        ),
      )
    where
      event_time : (moment : ℕ × ℕ) (has : HasEventBetween (10000 * i) (10000 * i + 9999) events moment)
          (e : TimedEvent) → Some has.0 ≡ Some e → e.time ≡ moment.0
      event_time moment has e same = ap (λ (x : TimedEvent). x.time) (sym (ap (λ o. unwrap_or o e) same)) ∙ has.1.1

  listed : (i : ℕ) (s : TimedStep) → IsStepIn shapes events i s → Contains (steps_in shapes events i) s
  unfolding steps_in timed_step_of
  listed i s is =
      let moment : ℕ × ℕ = (s.time, s.number) in
      let first : ℕ = 10000 * i in
      let last : ℕ = 10000 * i + 9999 in
      Contains-filter_map (timed_step_of shapes events) (events_between first last events) moment s
      ((has_exactly first last moment events).1 (is.0, (is.1.0, is.1.1, is.1.3)))
      (ap (λ (o : Option TimedEvent). option_map (at_moment moment)
      (option_and_then (λ (e : TimedEvent). step_of shapes e.event) o)) is.1.0
      ∙ ap (option_map (at_moment moment)) is.1.2)

  pub exactly_these : (i : ℕ) (s : TimedStep) → Contains (steps_in shapes events i) s ↔ IsStepIn shapes events i s
  exactly_these i s = (its_event i s, listed i s)

-- ---- the value that is set

-- it is what the text spells
set_value : (entry : Entry) (text : List ℕ) (node : ℕ)
    → result_ok (set_bytes_at entry text node) ≡ value entry.kind text node
unfolding value
set_value entry text node = by (form entry.kind) (value_in (form entry.kind) text node) refl
  where
    by : (f : Form) (o : Option (List ℕ)) → value_in f text node ≡ o
        → result_ok (if not (is_modelled_form f) then Err NotModelled else option_map_or Ok o (Err Unreadable)) ≡ o
    by Unmodelled None is = refl
    by Unmodelled (Some bytes) is = cc
    by Flag None is = refl
    by Flag (Some bytes) is = refl
    by (Signed width) None is = refl
    by (Signed width) (Some bytes) is = refl
    by (Unsigned width) None is = refl
    by (Unsigned width) (Some bytes) is = refl
    by (Decimal real) None is = refl
    by (Decimal real) (Some bytes) is = refl
    by Characters None is = refl
    by Characters (Some bytes) is = refl
    by HexPairs None is = refl
    by HexPairs (Some bytes) is = refl

spelled : (text : List ℕ) (node : ℕ) (bytes : List ℕ) (entry : Entry)
    → result_ok (set_bytes_at entry text node) ≡ Some bytes → HasLength entry.kind bytes
spelled text node bytes entry given =
    let is : value entry.kind text node ≡ Some bytes = sym (set_value entry text node) ∙ given in
    subst (HasLength entry.kind) (ap (λ o. unwrap_or o (zero_value entry.kind)) is)
    (written_length entry.kind text node)

-- no value is longer than 512 bytes
short_of_width : (width : Width) (bytes : List ℕ) → length bytes ≡ octets width → length bytes ≤ longest_value
short_of_width Bits8 bytes e = omega (arith, e)
short_of_width Bits16 bytes e = omega (arith, e)
short_of_width Bits24 bytes e = omega (arith, e)
short_of_width Bits32 bytes e = omega (arith, e)
short_of_width Bits40 bytes e = omega (arith, e)
short_of_width Bits48 bytes e = omega (arith, e)
short_of_width Bits56 bytes e = omega (arith, e)
short_of_width Bits64 bytes e = omega (arith, e)

short_of_form : (f : Form) (bytes : List ℕ)
    → MatchOption (len_of_form f) (length bytes ≤ longest_value) (λ n. length bytes ≡ n) → length bytes ≤ longest_value
short_of_form Unmodelled bytes h = h
short_of_form Flag bytes h = omega (arith, h)
short_of_form (Signed width) bytes h = short_of_width width bytes h
short_of_form (Unsigned width) bytes h = short_of_width width bytes h
short_of_form (Decimal Real32) bytes h = omega (arith, h)
short_of_form (Decimal Real64) bytes h = omega (arith, h)
short_of_form Characters bytes h = h
short_of_form HexPairs bytes h = h

set_short : (text : List ℕ) (node : ℕ) (bytes : List ℕ) (place : ℕ × ℕ) (o : Option Shaped)
    → option_and_then (λ (shape : Shaped). result_ok (set_bytes (get shape.entries place) text node)) o ≡ Some bytes
    → length bytes ≤ longest_value
unfolding set_bytes
set_short text node bytes place None given = cc
set_short text node bytes place (Some shape) given = by (get shape.entries place) given
  where
    by : (e : Option Entry) → result_ok (set_bytes e text node) ≡ Some bytes → length bytes ≤ longest_value
    by None given = cc
    by (Some entry) given = short_of_form (form entry.kind) bytes (spelled text node bytes entry given)

-- ---- no PDO object is set, and no value is too long

negated : (b : Bool) → not b ≡ true → b ≡ false
negated true h = sym h
negated false h = refl

free : (shapes : Shapes) (e : Event) (t : Step) → IsEvent e → step_of shapes e ≡ Some t → IsFree t
unfolding IsEvent IsSetting
free shapes (event.Set node index sub text) t is does = by (bytes_set shapes node index sub text) refl does
  where
    by : (o : Option (List ℕ)) → bytes_set shapes node index sub text ≡ o
        → option_map (set_step node index sub) o ≡ Some t → IsFree t
    by None given does = cc
    by (Some bytes) given does =
        let same : set_step node index sub bytes ≡ t = cc in
        subst IsFree same (
          negated (is_of_pdos index) is.1.1,
          set_short text node bytes (index, sub)
              (shapes node) given,
        )
free shapes (event.Power node on) t is does =
    let same : step.Power node on ≡ t = cc in
    subst IsFree same tt
free shapes (event.Nmt node command) t is does =
    let same : step.Nmt node command ≡ t = cc in
    subst IsFree same tt

pub steps_within : (shapes : Shapes) (p : Project) → IsSound p → (i : ℕ)
    → AllByRecursion (IsWithin i) (steps_in shapes p.events i)
unfolding IsEventOf
steps_within shapes p sound i = each_step shapes p.events (IsWithin i) i by
  where
    by : (s : TimedStep) (number : ℕ) (e : TimedEvent) → get p.events number ≡ Some e
        → step_of shapes e.event ≡ Some s.step → s.time ≡ e.time
        → is_between (10000 * i) (10000 * i + 9999) e.time ≡ true → IsWithin i s
    by s number e there does time lies =
        let is : IsEventOf p number e = each_found (IsEventOf p) p.events number e sound.events there in
        let range = between (10000 * i) (10000 * i + 9999) e.time lies in
        (omega (arith, range.0, time), omega (arith, range.1, time), free shapes e.event s.step is.2 does)

-- so they are a window
pub steps_are_window : (shapes : Shapes) (p : Project) → IsSound p → (i : ℕ) (steps : List TimedStep)
    → steps ≡ steps_in shapes p.events i → IsWindow i steps
steps_are_window shapes p sound i steps is = subst (IsWindow i) (sym is)
    (steps_within shapes p sound i, steps_in_order shapes p.events i)

-- no event lies behind the last window
pub none_behind : (shapes : Shapes) (p : Project) → IsSound p → (i : ℕ) → 1001 ≤ i → steps_in shapes p.events i ≡ []
unfolding IsEventOf
none_behind shapes p sound i late = empty (steps_in shapes p.events i) (each_step shapes p.events (λ s. ⊥) i by)
  where
    empty : (steps : List TimedStep) → AllByRecursion (λ s. ⊥) steps → steps ≡ []
    empty [] none = refl
    empty (s ∷ steps) none = absurd none.0

    by : (s : TimedStep) (number : ℕ) (e : TimedEvent) → get p.events number ≡ Some e
        → step_of shapes e.event ≡ Some s.step → s.time ≡ e.time
        → is_between (10000 * i) (10000 * i + 9999) e.time ≡ true → ⊥
    by s number e there does time lies =
        let is : IsEventOf p number e = each_found (IsEventOf p) p.events number e sound.events there in
        let range = between (10000 * i) (10000 * i + 9999) e.time lies in
        let early = between 0 10000000 e.time is.1 in
        omega (arith, range.0, early.1, late)

-- ---- a value has the length of its entry's type

module _ (text : List ℕ) (node : ℕ) (bytes : List ℕ) where
  set_fits : (place : ℕ × ℕ) (o : Option Shaped)
      → option_and_then (λ (shape : Shaped). result_ok (set_bytes (get shape.entries place) text node)) o ≡ Some bytes
      → (entry : Entry) → get (unwrap_or o no_shape).entries place ≡ Some entry → HasLength entry.kind bytes
  unfolding set_bytes
  set_fits place None given entry there = cc
  set_fits place (Some shape) given entry there =
      spelled text node bytes entry (sym (ap (λ (o : Option Entry). result_ok (set_bytes o text node)) there) ∙ given)

step_fits : (p : Project) (e : Event) (s : TimedStep) → step_of (shape_of_node p) e ≡ Some s.step
    → FitsShape (image_of p) s
step_fits p (event.Set node index sub text) s does = by (bytes_set (shape_of_node p) node index sub text) refl does
  where
    by : (o : Option (List ℕ)) → bytes_set (shape_of_node p) node index sub text ≡ o
        → option_map (set_step node index sub) o ≡ Some s.step → FitsShape (image_of p) s
    by None given does = cc
    by (Some bytes) given does =
        let same : set_step node index sub bytes ≡ s.step = cc in
        subst (λ t. FitsShape (image_of p) (record { number = s.number; time = s.time; step = t })) same
        (λ entry there modelled. set_fits text node bytes (index, sub) (shape_of_node p node) given entry there)
step_fits p (event.Power node on) s does =
    let same : step.Power node on ≡ s.step = cc in
    subst (λ t. FitsShape (image_of p) (record { number = s.number; time = s.time; step = t })) same tt
step_fits p (event.Nmt node command) s does =
    let same : step.Nmt node command ≡ s.step = cc in
    subst (λ t. FitsShape (image_of p) (record { number = s.number; time = s.time; step = t })) same tt

pub steps_fit : (p : Project) (i : ℕ) → AllByRecursion (FitsShape (image_of p)) (window_steps p i)
unfolding window_steps
steps_fit p i =
    each_step (shape_of_node p) p.events (FitsShape (image_of p)) i
    (λ s number e there does time lies. step_fits p e.event s does)
