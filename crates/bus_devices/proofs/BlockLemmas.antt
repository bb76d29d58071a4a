-- Devices by blocks of eight.
use Rattle.std.proofs.Common.{◌≡◌, ◌↔◌, ℕ, zero, suc, ◌+◌, ◌-◌, ◌<◌, ◌≤◌, List, [], ◌∷◌, ◌++◌, length, take, drop, get_or, refl}
use Rattle.std.proofs.Common.{sym, ap, ◌∙◌, append_assoc, subst, arith}
use Rattle.std.specs.Prelude.{min, OnOk, Result, Ok, Err}
use Rattle.std.proofs.Math.ListN.{set}
use Rattle.std.proofs.lemmas.List.{append-nil, drop_all, drop_at, drop_min, length-drop, length-take, map-append}
use Rattle.std.proofs.lemmas.List.{take-append-drop}
use Rattle.std.proofs.lemmas.List.{take_all, take_at, take_min, take_more}
use Rattle.image_parts.proofs.RecordLemmas.{asked_in_turn}
use Rattle.image_parts.specs.Asking.{Asking, Seen, outcome, reads}
use Rattle.image_parts.specs.Record.{IsAsked}
use Rattle.bus_devices.specs.Blocks.{AreBlocksOf, AreEightsOf, IsBlockOf, outlooks_of}
use Rattle.bus_devices.proofs.StillLemmas.{same_behind_front}
use Rattle.bus_devices.specs.declared.block.Block.{Block}
use Rattle.bus_devices.specs.declared.outlook.Outlook.{Outlook}
use Rattle.image_parts.specs.Each.{each}
use Rattle.image_parts.proofs.EachLemmas.{outcome_each, reads_each}
use Rattle.co_device.specs.Device.{Device}
use Rattle.image_parts.specs.Contents.{Content, Image}
use Rattle.image_parts.specs.declared.part.Part.{Part}
use Rattle.device_agenda.specs.LowBytes.{AreDeafBeyond, IsDeafBeyond}
use Rattle.device_agenda.specs.declared.low_bytes.LowBytes.{LowBytes}

-- ---- of one device more

pub more_deaf : (a b both : LowBytes) (ds : List Device) (i : ℕ) (d : Device) → i < length ds
    → ((ds es : List Device) → AreDeafBeyond a ds → AreDeafBeyond b es → AreDeafBeyond both (ds ++ es))
    → AreDeafBeyond a (take i ds) → IsDeafBeyond b (get_or ds i d) → AreDeafBeyond both (take (i + 1) ds)
more_deaf a b both ds i d within gives g h =
    rw (take_more ds i d within) (gives (take i ds) (get_or ds i d ∷ []) g (h, tt))

-- ---- of one block more

pub front_is : (n : ℕ) (ds block : List Device) → n ≡ min 8 (length ds) → block ≡ take n ds → block ≡ take 8 ds
front_is n ds block many e = e ∙ ap (λ (k : ℕ). take k ds) many ∙ take_min 8 ds

pub back_is : (n : ℕ) (ds rest : List Device) → n ≡ min 8 (length ds) → rest ≡ drop n ds → rest ≡ drop 8 ds
back_is n ds rest many e = e ∙ ap (λ (k : ℕ). drop k ds) many ∙ drop_min 8 ds

pub block_more : (blocks : List Block) (a : Block) (all ds block rest : List Device) → block ≡ take 8 ds
    → rest ≡ drop 8 ds → IsBlockOf a block → ((others : List Block) → AreBlocksOf others ds
    → AreBlocksOf (blocks ++ others) all)
    → (others : List Block) → AreBlocksOf others rest → AreBlocksOf ((blocks ++ a ∷ []) ++ others) all
block_more blocks a all ds block rest e f h before others left =
    rw (append_assoc blocks (a ∷ []) others) (before (a ∷ others) (rw e at h, rw f at left))

none_of : (ds : List Device) → length ds ≡ 0 → ds ≡ []
none_of [] e = refl
none_of (d ∷ ds) e = absurd (omega (arith, e))

pub all_planned : (blocks : List Block) (all ds : List Device) → length ds ≡ 0
    → ((others : List Block) → AreBlocksOf others ds → AreBlocksOf (blocks ++ others) all)
    → AreBlocksOf blocks all
all_planned blocks all ds none before = rw (append-nil {A = Block} blocks) at (before [] (none_of ds none))

-- ---- what is known of all blocks

-- what is known of devices, and of others, give what is known then of all
abbrev Gives : (List Device → Type 0) → (List Device → Type 0) → (List Device → Type 0) → Type 0
Gives Known Next Then = (ds es : List Device) → Known ds → Next es → Then (ds ++ es)

-- it is known of those before, and what is known of the blocks that are left is of those behind
pub record IsKnownSoFar (Of : Outlook → List Device → Type 0) (Known : List Device → Type 0) (left : List Block)
    (ds : List Device) : Type 0 where
  pub before : List Device
  pub behind : List Device
  pub whole : before ++ behind ≡ ds
  pub known : Known before
  pub rest : AreEightsOf Of left behind

module _ (Of : Outlook → List Device → Type 0) where
  pub none_so_far : (Known : List Device → Type 0) (blocks : List Block) (ds : List Device) → Known []
      → AreEightsOf Of blocks ds → IsKnownSoFar Of Known blocks ds
  none_so_far Known blocks ds none h = record { before = []; behind = ds; whole = refl; known = none; rest = h }

  one_known : (Known Then : List Device → Type 0) (a : Block) (left : List Block) (ds : List Device)
      → Gives Known (Of a.outlook) Then → IsKnownSoFar Of Known (a ∷ left) ds → IsKnownSoFar Of Then left ds
  one_known Known Then a left ds gives h = record {
    before = h.before ++ take 8 h.behind;
    behind = drop 8 h.behind;
    whole = append_assoc h.before (take 8 h.behind) (drop 8 h.behind)
        ∙ ap (λ (xs : List Device). h.before ++ xs) (take-append-drop {A = Device} 8 h.behind) ∙ h.whole;
    known = gives h.before (take 8 h.behind) h.known h.rest.0;
    rest = h.rest.1;
  }

  next_known : (Known Then : List Device → Type 0) (d : Block) (blocks : List Block) (i : ℕ) (ds : List Device)
      → i < length blocks → Gives Known (Of (get_or blocks i d).outlook) Then → IsKnownSoFar Of Known (drop i blocks) ds
      → IsKnownSoFar Of Then (drop (suc i) blocks) ds
  next_known Known Then d [] i ds within gives h = absurd (omega (arith, within))
  next_known Known Then d (b ∷ blocks) zero ds within gives h = one_known Known Then b blocks ds gives h
  next_known Known Then d (b ∷ blocks) (suc i) ds within gives h =
      next_known Known Then d blocks i ds (omega (arith, within)) gives h

  pub one_block_known : (Known Then : List Device → Type 0) (d : Block) (blocks : List Block) (i : ℕ)
      (ds : List Device) → i < length blocks → Gives Known (Of (get_or blocks i d).outlook) Then
      → IsKnownSoFar Of Known (drop i blocks) ds → IsKnownSoFar Of Then (drop (i + 1) blocks) ds
  one_block_known Known Then d blocks i ds within gives h =
      let after : suc i ≡ i + 1 = omega arith in
      subst (λ (n : ℕ). IsKnownSoFar Of Then (drop n blocks) ds) after
      (next_known Known Then d blocks i ds within gives h)

  all_known_by : (Known : List Device → Type 0) (left : List Block) (ds : List Device) → left ≡ []
      → IsKnownSoFar Of Known left ds → Known ds
  all_known_by Known [] ds e h = subst Known (sym (append-nil {A = Device} h.before)
      ∙ ap (λ (xs : List Device). h.before ++ xs) (sym h.rest) ∙ h.whole) h.known
  all_known_by Known (b ∷ left) ds e h = absurd cc

  pub all_known : (Known : List Device → Type 0) (blocks : List Block) (i : ℕ) (ds : List Device) → length blocks ≤ i
      → IsKnownSoFar Of Known (drop i blocks) ds → Known ds
  all_known Known blocks i ds past h = all_known_by Known (drop i blocks) ds (drop_all i blocks past) h

-- ---- a block and what follows it

front_of : (block rest : List Device) → length block ≡ min 8 (length block + length rest)
    → take 8 (block ++ rest) ≡ block
front_of block [] many = ap (take 8) (append-nil {A = Device} block) ∙ take_all 8 block (omega (arith, many))
front_of block (d ∷ rest) many = take_at block (d ∷ rest) 8 (omega (arith, many))

back_of : (block rest : List Device) → length block ≡ min 8 (length block + length rest) → drop 8 (block ++ rest) ≡ rest
back_of block [] many = ap (drop 8) (append-nil {A = Device} block) ∙ drop_all 8 block (omega (arith, many))
back_of block (d ∷ rest) many = drop_at block (d ∷ rest) 8 (omega (arith, many))

pub both_of : (a : Block) (blocks : List Block) (block rest : List Device)
    → length block ≡ min 8 (length block + length rest) → IsBlockOf a block → AreBlocksOf blocks rest
    → AreBlocksOf (a ∷ blocks) (block ++ rest)
both_of a blocks block rest many g h = (rw (front_of block rest many) g, rw (back_of block rest many) h)

-- ---- each of two lists in turn

module _ {N V A B : Type 0} (step : A → Asking N V B) where
  pub outcome_append : (xs ys : List A) (image : N → V)
      → outcome (each step (xs ++ ys)) image ≡ outcome (each step xs) image ++ outcome (each step ys) image
  outcome_append [] ys image = refl
  outcome_append (x ∷ xs) ys image =
      outcome_each step x (xs ++ ys) image
      ∙ ap (λ (rest : List B). outcome (step x) image ∷ rest) (outcome_append xs ys image)
      ∙ ap (λ (front : List B). front ++ outcome (each step ys) image) (sym (outcome_each step x xs image))

  pub reads_append : (xs ys : List A) (image : N → V)
      → reads (each step (xs ++ ys)) image ≡ reads (each step xs) image ++ reads (each step ys) image
  reads_append [] ys image = refl
  reads_append (x ∷ xs) ys image =
      reads_each step x (xs ++ ys) image
      ∙ ap (λ (rest : List (N × V)). reads (step x) image ++ rest) (reads_append xs ys image)
      ∙ sym (append_assoc (reads (step x) image) (reads (each step xs) image) (reads (each step ys) image))
      ∙ ap (λ (front : List (N × V)). front ++ reads (each step ys) image) (sym (reads_each step x xs image))

  pub length_each : (xs : List A) (image : N → V) → length (outcome (each step xs) image) ≡ length xs
  length_each [] image = refl
  length_each (x ∷ xs) image = ap length (outcome_each step x xs image) ∙ ap (λ (n : ℕ). suc n) (length_each xs image)

-- ---- a block runs, and then those that follow it

module _ (step : Device → Asking Part Content Device) (ds : List Device) where
  split : take 8 ds ++ drop 8 ds ≡ ds
  split = take-append-drop {A = Device} 8 ds

  pub both_state : (image : Image) (block rest : List Device) → block ≡ outcome (each step (take 8 ds)) image
      → rest ≡ outcome (each step (drop 8 ds)) image → block ++ rest ≡ outcome (each step ds) image
  both_state image block rest e f =
      ap (λ (front : List Device). front ++ rest) e
      ∙ ap (λ (back : List Device). outcome (each step (take 8 ds)) image ++ back) f
      ∙ sym (outcome_append step (take 8 ds) (drop 8 ds) image)
      ∙ ap (λ (all : List Device). outcome (each step all) image) split

  pub both_asked : (a b c : Seen Part Content) (x y z : ℕ) → IsAsked (each step (take 8 ds)) a b x y
      → IsAsked (each step (drop 8 ds)) b c y z → IsAsked (each step ds) a c x z
  both_asked a b c x y z = asked_in_turn (each step ds) (each step (take 8 ds)) (each step (drop 8 ds)) a b c x y z
      (ap (λ (xs : List Device). reads (each step xs) a.image) (sym split)
      ∙ reads_append step (take 8 ds) (drop 8 ds) a.image)

  pub both_blocks : (image : Image) (a : Block) (blocks : List Block) (block rest : List Device)
      → block ≡ outcome (each step (take 8 ds)) image → rest ≡ outcome (each step (drop 8 ds)) image
      → IsBlockOf a block → AreBlocksOf blocks rest → AreBlocksOf (a ∷ blocks) (block ++ rest)
  both_blocks image a blocks block rest e f g h =
      let front : length block ≡ min 8 (length ds) = ap length e ∙ length_each step (take 8 ds) image ∙ length-take 8 ds
      in
      let back : length rest ≡ length ds - 8 = ap length f ∙ length_each step (drop 8 ds) image ∙ length-drop 8 ds in
      both_of a blocks block rest (omega (arith, front, back)) g h

-- ---- a list of one block

pub one_set : (blocks : List Block) (a : Block) → length blocks ≡ 1 → set blocks 0 a ≡ a ∷ []
one_set [] a e = absurd (omega (arith, e))
one_set (b ∷ []) a e = refl
one_set (b ∷ c ∷ blocks) a e = absurd (omega (arith, e))

-- the same is known of blocks of which one ran where the same is known of it then, and of those behind it, and only
-- there
pub outlooks_as : (blocks asleep awake firsts others new : List Block) (a d : Block) → blocks ≡ asleep ++ awake
    → awake ≡ firsts ++ others → length firsts ≡ 1
    → ((a.outlook ≡ (get_or firsts 0 d).outlook) × (outlooks_of new ≡ outlooks_of others))
    ↔ (outlooks_of (asleep ++ (set firsts 0 a ++ new)) ≡ outlooks_of blocks)
outlooks_as blocks asleep awake [] others new a d whole e one = absurd (omega (arith, one))
outlooks_as blocks asleep awake (b ∷ []) others new a d whole e one =
    let outlook : Block → Outlook = λ x. x.outlook in
    let before : blocks ≡ asleep ++ (b ∷ others) = whole ∙ ap (λ (xs : List Block). asleep ++ xs) e in (
      (λ same.
          map-append outlook asleep (a ∷ new)
          ∙ ap (λ (xs : List Outlook). outlooks_of asleep ++ xs)
          (ap (λ (o : Outlook). o ∷ outlooks_of new) same.0 ∙ ap (λ (xs : List Outlook). b.outlook ∷ xs) same.1)
          ∙ sym (map-append outlook asleep (b ∷ others))
          ∙ ap outlooks_of (sym before)),
      (λ same. same_behind_front outlook asleep new others a b (same ∙ ap outlooks_of before)),
    )
outlooks_as blocks asleep awake (b ∷ c ∷ firsts) others new a d whole e one = absurd (omega (arith, one))

-- ---- where both went well

pub both_on_ok : {T E : Type 0} (r : Result T E) (P Q R : Type 0) → (P → Q → R) → OnOk r P → OnOk r Q → OnOk r R
both_on_ok (Ok x) P Q R f g h = f g h
both_on_ok (Err e) P Q R f g h = tt
