-- The roster of a project is one.
use Rattle.std.proofs.Common.{◌≡◌, ◌≢◌, ℕ, ◌<◌, ◌≤◌, ◌==◌, ◌||◌, ◌&&◌, not, ◌⊎◌, Bool, true, false, cond, T, List, [], ◌∷◌}
use Rattle.std.proofs.Common.{All, Contains, refl, arith, inl, inr}
use Rattle.std.specs.Prelude.{map, nat_eq, filter, Option, Some, None, IfSome, ◌^◌}
use Rattle.std.specs.List.{AllByRecursion}
use Rattle.std.specs.Ordering.{nat_cmp, is_lt}
use Rattle.std.specs.FinMap.{entries, entries_sorted, is_sorted, keys}
use Rattle.std.specs.Map.{keys_of}
use Rattle.std.specs.FinMap.Entries.{below_all}
use Rattle.std.proofs.lemmas.Bool.{eqb-true}
use Rattle.std.proofs.lemmas.Bool.Decides.{nat_tests}
use Rattle.std.proofs.lemmas.Cmp.{nat_cmp_total}
use Rattle.std.proofs.lemmas.List.Elements.{All-contains_itself, All-head, All-tail, recursion_from_All}
use Rattle.std.proofs.lemmas.Map.Lookups.{exact_unsigned}
use Rattle.std.proofs.lemmas.Map.Views.{Contains-from_any}
use Rattle.base.proofs.EachLemmas.{all_entries, first_part, second_part}
use Rattle.pdo_choices.proofs.RangeLemmas.{between}
use Rattle.base.specs.Ranges.{is_between}
use Rattle.project_edits.specs.Edits.{AreTimeStamps, IsManager}
use Rattle.project_edits.specs.Stamps.{first_day_of, period_of}
use Rattle.project_edits.specs.Versions.{is_three}
use Rattle.project_edits.specs.declared.script_version.ScriptVersion.{ScriptVersion}
use Rattle.project_edits.specs.declared.script_version.ScriptVersion.TheVariants.{One, Two, Three}
use Rattle.project_edits.specs.declared.time_stamps.TimeStamps.{TimeStamps}
use Rattle.co_project.specs.declared.node.Node.{Node}
use Rattle.co_project.specs.Project.{Content as Project, is_controller}
use Rattle.co_project.specs.Sound.{AreTimeStampsOf, IsNodeOf, IsSound}
use Rattle.image_parts.specs.Images.{AllDiffer, IsRoster}
use Rattle.image_parts.specs.Rosters.{is_among}
use Rattle.image_parts.specs.declared.start_mode.StartMode.TheVariants.{ConfiguredNodes}
use Rattle.cia301.specs.Limits.{bit_rates, IsNodeNumber}
use Rattle.network_image.specs.Image.{mandatory_of, roster_of_project, start_mode_of}

-- none, or from a least number to a greatest
none_or_between : (least most n : ℕ) → (n == 0 || is_between least most n) ≡ true
    → (n ≡ 0) ⊎ ((least ≤ n) × (n ≤ most))
none_or_between least most n is = by (n == 0) refl is
  where
    by : (t : Bool) → (n == 0) ≡ t → (t || is_between least most n) ≡ true → (n ≡ 0) ⊎ ((least ≤ n) × (n ≤ most))
    by true none h = inl (eqb-true n 0 none)
    by false some h = inr (between least most n h)

-- the numbers of nodes
numbers_within : (p : Project) (nodes : List (ℕ × Node)) → All (λ e. IsNodeOf p e.0 e.1) nodes
    → AllByRecursion IsNodeNumber (map (λ e. e.0) nodes)
unfolding IsNodeOf
numbers_within p [] all = tt
numbers_within p (e ∷ nodes) all =
    let is : IsNodeOf p e.0 e.1 = All-head (λ x. IsNodeOf p x.0 x.1) e nodes all in (
      between 1 127 e.0 is.0,
      numbers_within p nodes (All-tail (λ x. IsNodeOf p x.0 x.1) e nodes all),
    )

-- before version 3 none is the manager's
managers_own : (p : Project) (nodes : List (ℕ × Node)) → All (λ e. IsNodeOf p e.0 e.1) nodes
    → is_among p.manager.id (map (λ e. e.0) nodes) ≡ true → is_three p.version ≡ true
unfolding IsNodeOf
managers_own p [] all found = cc
managers_own p (e ∷ nodes) all found =
    let is : IsNodeOf p e.0 e.1 = All-head (λ x. IsNodeOf p x.0 x.1) e nodes all in
    by (is_three p.version) (e.0 == p.manager.id) refl is.1 found
    (managers_own p nodes (All-tail (λ x. IsNodeOf p x.0 x.1) e nodes all))
  where
    by : (three same : Bool) → is_three p.version ≡ three → (not three && same) ≡ false
        → (same || is_among p.manager.id (map (λ e. e.0) nodes)) ≡ true
        → (is_among p.manager.id (map (λ e. e.0) nodes) ≡ true → is_three p.version ≡ true)
        → is_three p.version ≡ true
    by true same is own found rest = is
    by false true is own found rest = cc
    by false false is own found rest = rest found

starts_configured : (version : ScriptVersion) → is_three version ≡ true → start_mode_of version ≡ ConfiguredNodes
starts_configured One three = cc
starts_configured Two three = cc
starts_configured Three three = refl

less : (a b : ℕ) → T (is_lt (nat_cmp a b)) → a < b
less a b h = grind (arith, nat_tests)

other : (a b : ℕ) → a < b → a ≢ b
other a b h same = omega (arith, h, same)

-- the keys of a table differ
apart : {X : Type 0} (k : ℕ) (es : List (ℕ × X)) → T (below_all nat_cmp k es)
    → AllByRecursion (λ b. k ≢ b) (map (λ e. e.0) es)
apart k [] below = tt
apart k (e ∷ es) below = (other k e.0 (less k e.0 (first_part _ _ below)), apart k es (second_part _ _ below))

keys_differ : {X : Type 0} (es : List (ℕ × X)) → T (is_sorted nat_cmp es) → AllDiffer (map (λ e. e.0) es)
keys_differ [] sorted = tt
keys_differ (e ∷ es) sorted = (apart e.0 es (first_part _ _ sorted), keys_differ es (second_part _ _ sorted))

-- what holds of each key of a table holds of each that a test leaves
pub keys_left : {X : Type 0} (P : ℕ → Type 0) (test : ℕ × X → Bool) (es : List (ℕ × X))
    → AllByRecursion P (keys_of es) → AllByRecursion P (keys_of (filter test es))
keys_left P test [] all = tt
keys_left P test (e ∷ es) all = by (test e) (keys_left P test es all.1)
  where
    by : (t : Bool) → AllByRecursion P (keys_of (filter test es))
        → AllByRecursion P (keys_of (cond t (e ∷ filter test es) (filter test es)))
    by true rest = (all.0, rest)
    by false rest = rest

-- the mandatory nodes are among the nodes
mandatory_among : (p : Project) → AllByRecursion (Contains (keys p.nodes)) (mandatory_of p)
mandatory_among p =
    keys_left (Contains (keys p.nodes)) (λ (e : ℕ × Node). e.1.mandatory && not (is_controller p e.0)) (entries p.nodes)
    (recursion_from_All (Contains (keys p.nodes)) (keys p.nodes) (All-contains_itself (keys p.nodes)))

-- the numbers of time stamps lie within their limits
stamps_period : (p : Project) (stamps : Option TimeStamps) → IfSome stamps (AreTimeStampsOf p)
    → (period_of stamps ≡ 0) ⊎ ((1000 ≤ period_of stamps) × (period_of stamps ≤ 10000000))
unfolding AreTimeStamps
stamps_period p None are = inl refl
stamps_period p (Some stamps) are = inr (between 1000 10000000 stamps.period_us are.1.0)

stamps_day : (p : Project) (stamps : Option TimeStamps) → IfSome stamps (AreTimeStampsOf p) → first_day_of stamps < 2 ^ 16
unfolding AreTimeStamps
stamps_day p None are = omega arith
stamps_day p (Some stamps) are = let most = between 0 65535 stamps.first_day are.1.1 in omega (arith, most.1)

pub is_roster : (p : Project) → IsSound p → IsRoster (roster_of_project p)
unfolding roster_of_project IsManager
is_roster p sound = record {
  bit_rate = Contains-from_any {eq = nat_eq} (λ x y. eqb-true x y) p.bitrate bit_rates sound.bitrate;
  manager = between 1 127 p.manager.id sound.manager.0;
  sync = none_or_between 1000 10000000 p.manager.sync_us sound.manager.1;
  counter = none_or_between 2 240 p.sync_counter sound.counter;
  time = stamps_period p p.time_stamps sound.time_stamps;
  first_day = stamps_day p p.time_stamps sound.time_stamps;
  heartbeat = let most = between 0 65535 p.manager.heartbeat_ms sound.manager.2 in omega (arith, most.1);
  timeout = let range = between 1 65535 p.manager.timeout_ms sound.manager.3 in (range.0, omega (arith, range.1));
  nodes = numbers_within p (entries p.nodes) (all_entries nat_cmp_total exact_unsigned (IsNodeOf p) p.nodes sound.nodes);
  controller = λ there. starts_configured p.version (managers_own p (entries p.nodes)
      (all_entries nat_cmp_total exact_unsigned (IsNodeOf p) p.nodes sound.nodes) there);
  differ = keys_differ (entries p.nodes) (entries_sorted p.nodes);
  mandatory = mandatory_among p;
}
