-- The winner and who sends, block by block.
use Rattle.std.proofs.Common.{◌≡◌, ℕ, suc, ◌+◌, ◌<◌, ◌==◌, ◌&&◌, Bool, true, false, List, [], ◌∷◌, ◌++◌, length}
use Rattle.std.proofs.Common.{◌≤◌, take, drop, get_or, Option, Some, None, refl, sym, ap, ◌∙◌, subst, arith, zero-add}
use Rattle.std.specs.Prelude.{Contains, if◌then◌else◌, min, nat_lt, not}
use Rattle.std.specs.List.{position, position_or_len}
use Rattle.std.proofs.lemmas.Bool.Decides.{nat_tests}
use Rattle.std.proofs.lemmas.List.{append-nil, drop_more, length-take, map-append, take-append-drop, take_all, take_more}
use Rattle.std.proofs.Math.Seq.{take-add}
use Rattle.std.proofs.lemmas.List.Concat.{flat_map-append}
use Rattle.std.proofs.lemmas.List.Elements.{All-contains, Contains-append_left, Contains-append_right}
use Rattle.std.proofs.lemmas.List.Quantifiers.{position-Some}
use Rattle.can_frame.specs.Senders.{device_sender}
use Rattle.can_frame.specs.Winner.{contenders, contenders_of, is_below, lower, winner_of, IsWinner}
use Rattle.can_frame.specs.declared.contender.Contender.{Contender}
use Rattle.can_frame.specs.declared.waiting.Waiting.{Waiting}
use Rattle.can_frame.proofs.WinnerLemmas.{winner-append, winner-unique, winner_of-wins}
use Rattle.co_device.specs.Device.{Device, without_power}
use Rattle.bus_devices.specs.Senders.{contends_with, device_lists, is_contender, may_wait_at, sender_place}

-- ---- who wins

pub winner_is : (cs : List Contender) (o : Option Contender) → IsWinner cs o → o ≡ winner_of cs
winner_is cs o h = winner-unique cs o (winner_of cs) h (winner_of-wins cs)

-- the lower of one and none
pub lower_none : (o : Option Contender) → o ≡ lower o None
lower_none None = refl
lower_none (Some c) = refl

pub of_both : (xs ys : List Device) → contenders (device_lists (xs ++ ys))
    ≡ contenders (device_lists xs) ++ contenders (device_lists ys)
of_both xs ys =
    let list_of : Device → ℕ × List Waiting = λ d. (device_sender d.number, d.waiting) in
    ap contenders (map-append list_of xs ys) ∙ flat_map-append contenders_of (device_lists xs) (device_lists ys)

-- ---- the first place of two lists

abbrev pub after_one : Option ℕ → Option ℕ
after_one None = None
after_one (Some n) = Some (suc n)

abbrev pub after_many : ℕ → Option ℕ → Option ℕ
after_many k None = None
after_many k (Some n) = Some (k + n)

one_after : (b : Bool) (n : ℕ) → (if b then Some (suc n) else None) ≡ after_one (if b then Some n else None)
one_after true n = refl
one_after false n = refl

none_is_none : (i : ℕ) → None ≡ Some i → ⊥
none_is_none i e = cc

one_no_more : (n : ℕ) → Some n ≡ None → ⊥
one_no_more n e = cc

one_more : (n : ℕ) → 1 + n ≡ suc n
one_more n = omega arith

none_less : (m : ℕ) → nat_lt 0 (suc m) ≡ true
none_less m = grind (arith, nat_tests)

less_by : (n m : ℕ) (b : Bool) → nat_lt n m ≡ b → nat_lt (suc n) (suc m) ≡ b
less_by n m true e = grind (arith, nat_tests)
less_by n m false e = grind (arith, nat_tests)

less_same : (n m : ℕ) → nat_lt (suc n) (suc m) ≡ nat_lt n m
less_same n m = less_by n m (nat_lt n m) refl

module _ {X : Type 0} (p : X → Bool) where
  first_by : (b : Bool) (n m : ℕ)
      → (if nat_lt (if not b then 1 + n else 0) (suc m) then Some (if not b then 1 + n else 0) else None)
      ≡ (if b then Some 0 else after_one (if nat_lt n m then Some n else None))
  first_by true n m = ap (λ (b : Bool). if b then Some 0 else None) (none_less m)
  first_by false n m =
      ap (λ (k : ℕ). if nat_lt k (suc m) then Some k else None) (one_more n)
      ∙ ap (λ (b : Bool). if b then Some (suc n) else None) (less_same n m)
      ∙ one_after (nat_lt n m) n

  pub position_more : (x : X) (xs : List X) → position p (x ∷ xs) ≡ (if p x then Some 0 else after_one (position p xs))
  position_more x xs = first_by (p x) (position_or_len p xs) (length xs)

  found_by : (b : Bool) (i : ℕ) (o all : Option ℕ) → ((j : ℕ) → o ≡ Some j → all ≡ Some j)
      → (if b then Some 0 else after_one o) ≡ Some i → (if b then Some 0 else after_one all) ≡ Some i
  found_by true i o all h e = e
  found_by false i None all h e = absurd (none_is_none i e)
  found_by false i (Some j) all h e = ap after_one (h j refl) ∙ e

  pub found_first : (xs ys : List X) (i : ℕ) → position p xs ≡ Some i → position p (xs ++ ys) ≡ Some i
  found_first [] ys i e = absurd (none_is_none i e)
  found_first (x ∷ xs) ys i e =
      position_more x (xs ++ ys)
      ∙ found_by (p x) i (position p xs) (position p (xs ++ ys)) (found_first xs ys) (sym (position_more x xs) ∙ e)

  one_further : (k n : ℕ) → suc (k + n) ≡ suc k + n
  one_further k n = omega arith

  further : (k : ℕ) (o : Option ℕ) → after_one (after_many k o) ≡ after_many (suc k) o
  further k None = refl
  further k (Some n) = ap (λ (m : ℕ). Some m) (one_further k n)

  no_further : (o : Option ℕ) → o ≡ after_many 0 o
  no_further None = refl
  no_further (Some n) = ap (λ (m : ℕ). Some m) (sym (zero-add n))

  missed_by : (b : Bool) (o all rest : Option ℕ) (k : ℕ) → (o ≡ None → all ≡ after_many k rest)
      → (if b then Some 0 else after_one o) ≡ None → (if b then Some 0 else after_one all) ≡ after_many (suc k) rest
  missed_by true o all rest k h e = absurd (one_no_more 0 e)
  missed_by false (Some n) all rest k h e = absurd (one_no_more (suc n) e)
  missed_by false None all rest k h e = ap after_one (h refl) ∙ further k rest

  pub found_later : (xs ys : List X) → position p xs ≡ None
      → position p (xs ++ ys) ≡ after_many (length xs) (position p ys)
  found_later [] ys e = no_further (position p ys)
  found_later (x ∷ xs) ys e =
      position_more x (xs ++ ys)
      ∙ missed_by (p x) (position p xs) (position p (xs ++ ys)) (position p ys) (length xs) (found_later xs ys)
      (sym (position_more x xs) ∙ e)

-- of the frames that wait at the devices it wins
abbrev pub IsBest : Option Contender → List Device → Type 0
IsBest best ds = IsWinner (contenders (device_lists ds)) best

-- of devices and others the lower of the winners wins
pub best_of_both : (xs ys : List Device) (a b best : Option Contender) → IsWinner (contenders (device_lists xs)) a
    → IsWinner (contenders (device_lists ys)) b → best ≡ lower a b → IsWinner (contenders (device_lists (xs ++ ys))) best
best_of_both xs ys a b best g h e =
    rw (of_both xs ys, e) (winner-append (contenders (device_lists xs)) (contenders (device_lists ys)) a b g h)

-- ---- who sends

all_three : (x y z : Bool) → x && (y && z) ≡ true → (x ≡ true) × ((y ≡ true) × (z ≡ true))
all_three true true true e = (refl, (refl, refl))
all_three true true false e = absurd cc
all_three true false z e = absurd cc
all_three false y z e = absurd cc

is_same : (m n : ℕ) → (m == n) ≡ true → m ≡ n
is_same m n e = grind (arith, nat_tests)

contender_is : (b c : Contender) → is_contender c (Some b) ≡ true → b ≡ c
contender_is b c e =
    let same = all_three (b.id == c.id) (b.sender == c.sender) (b.place == c.place) e in
    let made : ℕ → ℕ → ℕ → Contender = λ id node place. record { id = id; sender = node; place = place } in
    ap (λ id. made id b.sender b.place) (is_same b.id c.id same.0)
    ∙ ap (λ node. made c.id node b.place) (is_same b.sender c.sender same.1.0)
    ∙ ap (λ place. made c.id c.sender place) (is_same b.place c.place same.1.1)

not_true : (x : Bool) → (x ≡ true → ⊥) → x ≡ false
not_true true h = absurd (h refl)
not_true false h = refl

module _ (c : Contender) where
  winner_contains : (cs : List Contender) (o : Option Contender) → IsWinner cs o → is_contender c o ≡ true
      → Contains cs c
  winner_contains cs None h e = absurd cc
  winner_contains cs (Some b) h e = subst (Contains cs) (contender_is b c e) h.0

  contender_waits : (d : Device) → contends_with c d ≡ true → Contains (contenders_of (device_sender d.number, d.waiting)) c
  contender_waits d e =
      let cs : List Contender = contenders_of (device_sender d.number, d.waiting) in
      winner_contains cs (winner_of cs) (winner_of-wins cs) e

  none_at : (ds : List Device) → (Contains (contenders (device_lists ds)) c → ⊥)
      → position (contends_with c) ds ≡ None
  none_at [] h = refl
  none_at (d ∷ ds) h =
      let front : List Contender = contenders_of (device_sender d.number, d.waiting) in
      let back : List Contender = contenders (device_lists ds) in
      position_more (contends_with c) d ds
      ∙ ap (λ (b : Bool). if b then Some 0 else after_one (position (contends_with c) ds))
      (not_true (contends_with c d) (λ e. h (Contains-append_left front back c (contender_waits d e))))
      ∙ ap after_one (none_at ds (λ g. h (Contains-append_right front back c g)))

  nothing_contained : (cs : List Contender) → cs ≡ [] → Contains cs c → ⊥
  nothing_contained cs e h = let empty : length cs ≡ 0 = ap length e in omega (arith, h.1)

  is_true : (b : Bool) → not b ≡ false → b ≡ true
  is_true true e = refl
  is_true false e = absurd cc

  both_ways : (b : Bool) → b ≡ true → b ≡ false → ⊥
  both_ways true e f = cc
  both_ways false e f = cc

  not_contained : (cs : List Contender) (best : Option Contender) → IsWinner cs best → may_wait_at c best ≡ false
      → Contains cs c → ⊥
  not_contained cs None h e = nothing_contained cs h
  not_contained cs (Some b) h e = λ g. both_ways (is_below c b) (is_true (is_below c b) e)
      (All-contains (λ d. is_below d b ≡ false) cs c h.1 g)

  -- it waits at none of the devices where each frame that waits is above it
  pub none_sends : (ds : List Device) (best : Option Contender) → IsWinner (contenders (device_lists ds)) best
      → may_wait_at c best ≡ false → None ≡ sender_place c ds
  unfolding sender_place
  none_sends ds best h e = sym (none_at ds (not_contained (contenders (device_lists ds)) best h e))

  pub no_device : None ≡ sender_place c []
  unfolding sender_place
  no_device = refl

  -- it is known of a device whether it contends
  pub contends_is : (d : Device) (o : Option Contender) → IsBest o (d ∷ []) → contends_with c d ≡ is_contender c o
  contends_is d o h =
      let cs : List Contender = contenders_of (device_sender d.number, d.waiting) in
      ap (is_contender c) (sym (winner_is (cs ++ []) o h ∙ ap winner_of (append-nil cs)))

  module _ (ds : List Device) (m : ℕ) (none : None ≡ sender_place c (take m ds)) where
    -- none of the first ones contends, so it is one of those behind them
    later : (ys : List Device) → position (contends_with c) (take m ds ++ ys)
        ≡ after_many (length (take m ds)) (position (contends_with c) ys)
    unfolding sender_place
    later ys = found_later (contends_with c) (take m ds) ys (sym none)

    whole : position (contends_with c) (take m ds ++ drop m ds) ≡ sender_place c ds
    unfolding sender_place
    whole = ap (position (contends_with c)) (take-append-drop {A = Device} m ds)

    pub sends_behind : (i : ℕ) → Some i ≡ sender_place c (take 8 (drop m ds))
        → Some (length (take m ds) + i) ≡ sender_place c ds
    unfolding sender_place
    sends_behind i e =
        let rest : List Device = drop m ds in
        let found : Some i ≡ position (contends_with c) rest =
        sym (found_first (contends_with c) (take 8 rest) (drop 8 rest) i (sym e))
        ∙ ap (position (contends_with c)) (take-append-drop {A = Device} 8 rest) in
        ap (after_many (length (take m ds))) found ∙ sym (later rest) ∙ whole

    pub none_of_both : (n : ℕ) → None ≡ sender_place c (take n (drop m ds)) → None ≡ sender_place c (take (m + n) ds)
    unfolding sender_place
    none_of_both n e =
        ap (after_many (length (take m ds))) e
        ∙ sym (later (take n (drop m ds)))
        ∙ ap (position (contends_with c)) (sym (take-add {A = Device} m n ds))

    module _ (d : Device) (within : m < length ds) where
      first_left : drop m ds ≡ get_or ds m d ∷ drop (m + 1) ds
      first_left = drop_more ds m d within

      pub sends_next : contends_with c (get_or ds m d) ≡ true → Some m ≡ sender_place c ds
      sends_next e =
          let long : length (take m ds) ≡ min m (length ds) = length-take m ds in
          let here : m ≡ length (take m ds) + 0 = omega (arith, long, within) in
          ap (λ (n : ℕ). Some n) here
          ∙ ap (λ (b : Bool). after_many (length (take m ds))
          (if b then Some 0 else after_one (position (contends_with c) (drop (m + 1) ds)))) (sym e)
          ∙ ap (after_many (length (take m ds)))
          (sym (position_more (contends_with c) (get_or ds m d) (drop (m + 1) ds))
          ∙ ap (position (contends_with c)) (sym first_left))
          ∙ sym (later (drop m ds)) ∙ whole

      pub none_next : contends_with c (get_or ds m d) ≡ false → None ≡ sender_place c (take (m + 1) ds)
      unfolding sender_place
      none_next e =
          ap (λ (b : Bool). after_many (length (take m ds))
          (if b then Some 0 else after_one (position (contends_with c) []))) (sym e)
          ∙ ap (after_many (length (take m ds))) (sym (position_more (contends_with c) (get_or ds m d) []))
          ∙ sym (later (get_or ds m d ∷ []))
          ∙ ap (position (contends_with c)) (sym (take_more ds m d within))

  -- it is none of the first ones, which are all
  pub none_of_all : (ds : List Device) (m : ℕ) → length ds ≤ m → None ≡ sender_place c (take m ds)
      → None ≡ sender_place c ds
  none_of_all ds m past e = e ∙ ap (sender_place c) (take_all m ds past)

  pub sends_within : (ds : List Device) (i : ℕ) → Some i ≡ sender_place c ds → i < length ds
  unfolding sender_place
  sends_within ds i e = (position-Some (contends_with c) ds i (without_power false 0) (sym e)).0
