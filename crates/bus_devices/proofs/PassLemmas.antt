-- Blocks that sleep through an instant, and those behind them.
use Rattle.std.proofs.Common.{◌≡◌, ℕ, zero, suc, ◌+◌, ◌-◌, ◌*◌, ◌<◌, ◌≤◌, true, List, [], ◌∷◌, ◌++◌, get_or, length}
use Rattle.std.proofs.Common.{take, drop, Option, refl, sym, ap, ◌∙◌, subst, arith, append_assoc}
use Rattle.std.specs.Prelude.{IfSome, min}
use Rattle.std.specs.List.{AllByRecursion}
use Rattle.std.proofs.lemmas.List.{length-append, length-drop, drop_min, length-take, take-append-drop, take_min}
use Rattle.std.proofs.lemmas.List.{take_more}
use Rattle.std.proofs.Math.Seq.{drop-nil, take-add}
use Rattle.bus_devices.proofs.SentLemmas.{drop_later}
use Rattle.image_parts.proofs.RecordLemmas.{asked_in_turn, asked_none}
use Rattle.image_parts.specs.Asking.{Asking, Answer, Seen, outcome, reads}
use Rattle.image_parts.specs.Record.{IsAsked}
use Rattle.image_parts.specs.Each.{each}
use Rattle.bus_devices.specs.Blocks.{AreBlocksOf, IsBlockOf, block_sleeps}
use Rattle.bus_devices.specs.declared.block.Block.{Block}
use Rattle.bus_devices.proofs.BlockLemmas.{both_of, length_each, outcome_append, reads_append}
use Rattle.bus_devices.proofs.IdleLemmas.{idle}
use Rattle.bus_devices.proofs.OutlookLemmas.{block_outlook}
use Rattle.co_device.specs.Device.{Device}
use Rattle.image_parts.specs.Contents.{Content, Image}
use Rattle.image_parts.specs.declared.part.Part.{Part}
use Rattle.device_agenda.specs.Agenda.{at_instant}
use Rattle.device_agenda.specs.Alarms.{agenda_by}
use Rattle.device_agenda.specs.Delivered.{Delivered}
use Rattle.device_agenda.proofs.SleepLemmas.{nothing_reaches}
use Rattle.device_pdos.proofs.LookLemmas.{all_both}

-- ---- they do nothing

module _ (t : ℕ) (delivered : Option Delivered) (bound : IfSome delivered (λ d. d.frame.id < 0x800)) where
  abbrev pub Idle : List Device → Type 0
  Idle ds = AllByRecursion (λ d. at_instant t delivered d ≡ Answer d) ds

  none_at_all : (m : ℕ) (ds : List Device) → ds ≡ [] → Idle (take m ds)
  none_at_all zero [] e = tt
  none_at_all (suc m) [] e = tt
  none_at_all m (d ∷ ds) e = absurd cc

  pub all_idle_in : (n m : ℕ) (blocks : List Block) (ds : List Device) → m ≡ 8 * n → AreBlocksOf blocks ds
      → AllByRecursion (λ b. block_sleeps t delivered b ≡ true) (take n blocks) → Idle (take m ds)
  all_idle_in zero m blocks ds e h asleep = rw e tt
  all_idle_in (suc n) m [] ds e h asleep = none_at_all m ds h
  all_idle_in (suc n) m (b ∷ blocks) ds e h asleep =
      let more : m ≡ 8 + 8 * n = omega (arith, e) in
      subst Idle (sym (ap (λ (k : ℕ). take k ds) more ∙ take-add {A = Device} 8 (8 * n) ds))
      (all_both (λ d. at_instant t delivered d ≡ Answer d) (take 8 ds) (take (8 * n) (drop 8 ds))
      (nothing_reaches (agenda_by b.outlook.alarm) b.low_bytes (take 8 ds) t delivered bound
      (block_outlook b (take 8 ds) h.0).agenda h.0.low_bytes asleep.0)
      (all_idle_in n (8 * n) blocks (drop 8 ds) refl h.1 asleep.1))

pub idle_first : (t : ℕ) (delivered : Option Delivered) (n m : ℕ) (blocks : List Block) (ds : List Device)
    → (0 < n → IfSome delivered (λ d. d.frame.id < 0x800)) → m ≡ 8 * n → AreBlocksOf blocks ds
    → AllByRecursion (λ b. block_sleeps t delivered b ≡ true) (take n blocks)
    → AllByRecursion (λ d. at_instant t delivered d ≡ Answer d) (take m ds)
idle_first t delivered zero m blocks ds bound e h asleep = rw e tt
idle_first t delivered (suc n) m blocks ds bound e h asleep =
    all_idle_in t delivered (bound (omega arith)) (suc n) m blocks ds e h asleep

-- ---- the first ones, and those behind them

pub first_is : (k n : ℕ) (ds front : List Device) → n ≡ min k (length ds) → front ≡ take n ds → front ≡ take k ds
first_is k n ds front many e = e ∙ ap (λ (j : ℕ). take j ds) many ∙ take_min k ds

pub rest_is : (k n : ℕ) (ds rest : List Device) → n ≡ min k (length ds) → rest ≡ drop n ds → rest ≡ drop k ds
rest_is k n ds rest many e = e ∙ ap (λ (j : ℕ). drop j ds) many ∙ drop_min k ds

behind_by : (n m : ℕ) (blocks : List Block) (ds : List Device) → m ≡ 8 * n → AreBlocksOf blocks ds
    → AreBlocksOf (drop n blocks) (drop m ds)
behind_by zero m blocks ds e h = rw e h
behind_by (suc n) m [] ds e h = ap (drop m) h ∙ drop-nil {A = Device} m
behind_by (suc n) m (b ∷ blocks) ds e h =
    subst (AreBlocksOf (drop n blocks)) (sym (drop_later 8 (8 * n) m ds (omega (arith, e))))
    (behind_by n (8 * n) blocks (drop 8 ds) refl h.1)

pub behind : (n : ℕ) (blocks others : List Block) (ds rest : List Device) → others ≡ drop n blocks
    → rest ≡ drop (8 * n) ds → AreBlocksOf blocks ds → AreBlocksOf others rest
behind n blocks others ds rest e f h = rw (e, f) (behind_by n (8 * n) blocks ds refl h)

-- the first block is of the first devices
pub first_known : (blocks firsts others : List Block) (ds block : List Device) (d : Block) → blocks ≡ firsts ++ others
    → length firsts ≡ 1 → block ≡ take 8 ds → AreBlocksOf blocks ds → IsBlockOf (get_or firsts 0 d) block
first_known blocks [] others ds block d e one f h = absurd (omega (arith, one))
first_known blocks (b ∷ firsts) others ds block d e one f h =
    subst (IsBlockOf b) (sym f) (subst (λ (xs : List Block). AreBlocksOf xs ds) e h).0

-- without blocks there are no devices
pub none_left : (blocks : List Block) (rest : List Device) → length blocks ≡ 0 → AreBlocksOf blocks rest → rest ≡ []
none_left [] rest e h = h
none_left (b ∷ blocks) rest e h = absurd (omega (arith, e))

-- ---- one more

pub one_more_asleep : (t : ℕ) (delivered : Option Delivered) (blocks : List Block) (i : ℕ) (d : Block) → i < length blocks
    → block_sleeps t delivered (get_or blocks i d) ≡ true
    → AllByRecursion (λ b. block_sleeps t delivered b ≡ true) (take i blocks)
    → AllByRecursion (λ b. block_sleeps t delivered b ≡ true) (take (i + 1) blocks)
one_more_asleep t delivered blocks i d within asleep all =
    rw (take_more blocks i d within) (all_both (λ (b : Block). block_sleeps t delivered b ≡ true)
    (take i blocks) (get_or blocks i d ∷ []) all (asleep, tt))

-- ---- those behind them

module _ (step : Device → Asking Part Content Device) (ds : List Device) (m : ℕ)
    (still : AllByRecursion (λ d. step d ≡ Answer d) (take m ds)) where
  nothing : each step (take m ds) ≡ Answer (take m ds)
  nothing = idle step (take m ds) still

  whole : take m ds ++ drop m ds ≡ ds
  whole = take-append-drop {A = Device} m ds

  pub passed_state : (image : Image) (rest : List Device) → rest ≡ outcome (each step (drop m ds)) image
      → take m ds ++ rest ≡ outcome (each step ds) image
  passed_state image rest e =
      ap (λ (back : List Device). take m ds ++ back) e
      ∙ ap (λ (x : Asking Part Content (List Device)). outcome x image ++ outcome (each step (drop m ds)) image)
      (sym nothing)
      ∙ sym (outcome_append step (take m ds) (drop m ds) image)
      ∙ ap (λ (all : List Device). outcome (each step all) image) whole

  pub passed_asked : (a b : Seen Part Content) (x y : ℕ) → IsAsked (each step (drop m ds)) a b x y
      → IsAsked (each step ds) a b x y
  passed_asked a b x y = asked_in_turn (each step ds) (each step (take m ds)) (each step (drop m ds)) a a b x x y
      (ap (λ (xs : List Device). reads (each step xs) a.image) (sym whole)
      ∙ reads_append step (take m ds) (drop m ds) a.image)
      (asked_none (each step (take m ds)) (take m ds) a x nothing)

  -- there is nothing behind them
  pub all_passed : (image : Image) (rest : List Device) → rest ≡ drop m ds → rest ≡ []
      → take m ds ++ rest ≡ outcome (each step ds) image
  all_passed image rest e none = passed_state image rest
      (none ∙ ap (λ (xs : List Device). outcome (each step xs) image) (sym none ∙ e))

  pub none_asked : (a : Seen Part Content) (x : ℕ) (rest : List Device) → rest ≡ drop m ds → rest ≡ []
      → IsAsked (each step ds) a a x x
  none_asked a x rest e none =
      passed_asked a a x x (asked_none (each step (drop m ds)) [] a x (ap (each step) (sym e ∙ none)))

passed_by : (n m : ℕ) (blocks new : List Block) (ds rest : List Device) → m ≡ 8 * n → n ≤ length blocks
    → AreBlocksOf blocks ds → length rest ≡ length ds - m → AreBlocksOf new rest
    → AreBlocksOf (take n blocks ++ new) (take m ds ++ rest)
passed_by zero m blocks new ds rest e within h long new_is = rw e new_is
passed_by (suc n) m [] new ds rest e within h long new_is = absurd (omega (arith, within))
passed_by (suc n) m (b ∷ blocks) new ds rest e within h long new_is =
    let more : m ≡ 8 + 8 * n = omega (arith, e) in
    let front : List Device = take 8 ds in
    let middle : List Device = take (8 * n) (drop 8 ds) in
    let behind : length (drop 8 ds) ≡ length ds - 8 = length-drop 8 ds in
    let left : length rest ≡ length (drop 8 ds) - 8 * n = omega (arith, long, more, behind) in
    let first : length front ≡ min 8 (length ds) = length-take 8 ds in
    let second : length middle ≡ min (8 * n) (length (drop 8 ds)) = length-take (8 * n) (drop 8 ds) in
    let both : length (middle ++ rest) ≡ length middle + length rest = length-append middle rest in
    let many : length front ≡ min 8 (length front + length (middle ++ rest)) =
    omega (arith, first, second, both, left, behind) in
    subst (AreBlocksOf (b ∷ take n blocks ++ new))
    (sym (append_assoc front middle rest)
    ∙ ap (λ (xs : List Device). xs ++ rest)
    (sym (ap (λ (k : ℕ). take k ds) more ∙ take-add {A = Device} 8 (8 * n) ds)))
    (both_of b (take n blocks ++ new) front (middle ++ rest) many h.0
    (passed_by n (8 * n) blocks new (drop 8 ds) rest refl (omega (arith, within)) h.1 left new_is))

pub passed_blocks : (step : Device → Asking Part Content Device) (n m : ℕ) (blocks new : List Block)
    (ds rest : List Device) (image : Image) → m ≡ 8 * n → n ≤ length blocks → AreBlocksOf blocks ds
    → rest ≡ outcome (each step (drop m ds)) image → AreBlocksOf new rest
    → AreBlocksOf (take n blocks ++ new) (take m ds ++ rest)
passed_blocks step n m blocks new ds rest image e within h f = passed_by n m blocks new ds rest e within h
    (ap length f ∙ length_each step (drop m ds) image ∙ length-drop m ds)
