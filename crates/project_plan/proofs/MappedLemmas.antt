-- What a clean message of a sound project maps can be written: its numbers are bytes.
use Rattle.std.proofs.Common.{◌≡◌, ℕ, zero, suc, ◌<◌, Bool, true, false, cond, List, [], ◌∷◌, All, Option, Some, None}
use Rattle.std.proofs.Common.{option_map, option_and_then, refl, subst, arith}
use Rattle.std.specs.Prelude.{if◌then◌else◌}
use Rattle.std.specs.BTreeMap.{is_at}
use Rattle.std.specs.FinMap.{entries}
use Rattle.std.specs.Map.{lookup}
use Rattle.std.specs.Option.{option_or, unwrap_or}
use Rattle.std.proofs.lemmas.Bool.Decides.{nat_tests}
use Rattle.std.proofs.lemmas.List.Elements.{All-from_recursion, All-head, All-map, All-tail, All-weaker}
use Rattle.base.specs.Bytes.{AreBytes}
use Rattle.base.specs.Ranges.{is_between, AreIndices}
use Rattle.co_values.specs.declared.form.Form.{Form}
use Rattle.co_values.specs.declared.form.Form.TheVariants.{Flag, Signed, Unsigned, Decimal, Characters, HexPairs, Unmodelled}
use Rattle.co_values.specs.declared.form.Width.{Width}
use Rattle.co_values.specs.declared.form.Width.TheVariants.{Bits8, Bits16, Bits24, Bits32, Bits40, Bits48, Bits56, Bits64}
use Rattle.real_texts.specs.declared.real.Real.{Real}
use Rattle.real_texts.specs.declared.real.Real.TheVariants.{Real32, Real64}
use Rattle.co_values.specs.Types.{bits_of_form, form, width_bits}
use Rattle.co_dict.specs.declared.entry.Entry.{Entry}
use Rattle.project_messages.specs.declared.linked.Linked.{Linked}
use Rattle.project_messages.specs.declared.message.Message.{Message}
use Rattle.project_messages.specs.Messages.{seat_cmp, sink_at, AreSinks, AreSources, IsLinked, IsMessage, IsSink}
use Rattle.project_messages.specs.Messages.{is_start}
use Rattle.node_parameters.proofs.WrittenLemmas.{All-filter_map}
use Rattle.pdo_stations.specs.declared.mapped.Mapped.{Mapped}
use Rattle.pdo_stations.specs.Devices.{Devices, devices_of, width_at}
use Rattle.pdo_stations.specs.Dummies.{dummy_for, dummy_type, mapped_to}
use Rattle.pdo_choices.specs.declared.clean.Clean.{Clean}
use Rattle.pdo_choices.specs.declared.consumer.Consumer.{Consumer}
use Rattle.pdo_plan.specs.declared.outcome.Outcome.TheVariants.{Planned}
use Rattle.pdo_plan.specs.Mapping.{mapped_bytes, sent_mapping, source_bits, taken_at, taken_mapping, Sources}
use Rattle.pdo_choices.specs.Consumers.{Sinks, consumers_of}
use Rattle.pdo_plan.specs.Plan.{clean, consumer_of, judged_message, planned_consumers}
use Rattle.pdo_choices.specs.Had.{had_by, Had, Withheld}
use Rattle.pdo_plan.proofs.ChainLemmas.{all_clean, each_within}
use Rattle.pdo_plan.proofs.JudgedLemmas.{consumer_is, each_given, judged_clean}
use Rattle.pdo_links.specs.Tables.{AreMapped}
use Rattle.pdo_links.proofs.Values.{two_bytes}
use Rattle.co_project.specs.Project.{Content, controller_of}
use Rattle.co_project.specs.Sound.{IsSound}
use Rattle.project_edits.specs.Versions.{is_three}
use Rattle.project_plan.specs.Network.{sheets_of_members, plan_of_project}
use Rattle.project_plan.proofs.AloneLemmas.{all_linked}

-- ---- bytes

abbrev IsMappable : Mapped → Type 0
IsMappable m = AreBytes (mapped_bytes m)

mappable : (m : Mapped) → m.bits < 256 → m.sub < 256 → IsMappable m
mappable m bits sub zero = bits
mappable m bits sub (suc zero) = sub
mappable m bits sub (suc (suc i)) = two_bytes m.index i

few_of_width : (w : Width) (bits : ℕ) → bits_of_form (Unsigned w) ≡ Some bits → bits < 256
few_of_width Bits8 bits e = let same : 8 ≡ bits = cc in omega arith
few_of_width Bits16 bits e = let same : 16 ≡ bits = cc in omega arith
few_of_width Bits24 bits e = let same : 24 ≡ bits = cc in omega arith
few_of_width Bits32 bits e = let same : 32 ≡ bits = cc in omega arith
few_of_width Bits40 bits e = let same : 40 ≡ bits = cc in omega arith
few_of_width Bits48 bits e = let same : 48 ≡ bits = cc in omega arith
few_of_width Bits56 bits e = let same : 56 ≡ bits = cc in omega arith
few_of_width Bits64 bits e = let same : 64 ≡ bits = cc in omega arith

few_by_form : (f : Form) (bits : ℕ) → bits_of_form f ≡ Some bits → bits < 256
few_by_form Flag bits e = let same : 1 ≡ bits = cc in omega arith
few_by_form (Signed w) bits e = few_of_width w bits e
few_by_form (Unsigned w) bits e = few_of_width w bits e
few_by_form (Decimal real) bits e = by real e
  where
    by : (real : Real) → bits_of_form (Decimal real) ≡ Some bits → bits < 256
    by Real32 e = let same : 32 ≡ bits = cc in omega arith
    by Real64 e = let same : 64 ≡ bits = cc in omega arith
few_by_form Characters bits e = cc
few_by_form HexPairs bits e = cc
few_by_form Unmodelled bits e = cc

small_sub : (sub : ℕ) → is_between 0 0xFF sub ≡ true → sub < 256
small_sub sub e = grind (arith, nat_tests)

module _ (devices : Devices) (sender : ℕ) where
  few_bits : (place : ℕ × ℕ) (bits : ℕ) → width_at devices sender place ≡ Some bits → bits < 256
  few_bits place bits e = by (devices.entry sender place) e
    where
      by : (o : Option Entry) → option_and_then (λ (e : Entry). width_bits e.kind) o ≡ Some bits → bits < 256
      by None e = cc
      by (Some entry) e = few_by_form (form entry.kind) bits e

  few_source_bits : (s : ℕ × (ℕ × ℕ)) → source_bits devices sender s < 256
  few_source_bits s = by (width_at devices sender s.1) refl
    where
      by : (o : Option ℕ) → width_at devices sender s.1 ≡ o → unwrap_or o 0 < 256
      by None e = omega arith
      by (Some bits) e = few_bits s.1 bits e

  -- what the sender maps
  sent_mappable : (sources : Sources) → AreSources sources → AreMapped (sent_mapping devices sender sources)
  unfolding AreSources AreMapped sent_mapping
  sent_mappable sources are =
      All-map IsMappable (λ (s : ℕ × (ℕ × ℕ)). mapped_to s.1 (source_bits devices sender s)) sources
      (All-weaker (λ (s : ℕ × (ℕ × ℕ)). AreIndices s.1.0 s.1.1)
      (λ (s : ℕ × (ℕ × ℕ)). IsMappable (mapped_to s.1 (source_bits devices sender s)))
      (λ s is. mappable (mapped_to s.1 (source_bits devices sender s)) (few_source_bits s)
      (small_sub s.1.1 is.1)) sources are.2)

  -- ---- consumers

  -- what holds of each value in a list holds of one that is looked up
  looked_up : {K X : Type 0} (P : X → Type 0) (test : K → Bool) (es : List (K × X)) (x : X)
      → All (λ (e : K × X). P e.1) es → lookup test es ≡ Some x → P x
  looked_up P test [] x all e = cc
  looked_up {K} {X} P test (f ∷ es) x all e =
      by (test f.0) e (looked_up P test es x (All-tail (λ (e : K × X). P e.1) f es all))
    where
      by : (b : Bool) → cond b (Some f.1) (lookup test es) ≡ Some x → (lookup test es ≡ Some x → P x) → P x
      by true e rest = let same : f.1 ≡ x = cc in subst P same (All-head (λ (e : K × X). P e.1) f es all)
      by false e rest = rest e

  abbrev IsSmall : ℕ × ℕ → Type 0
  IsSmall place = place.1 < 256

  small_places : (sinks : Sinks) → AreSinks sinks → All (λ (s : (ℕ × ℕ) × (ℕ × ℕ)). IsSmall s.1) sinks
  unfolding AreSinks
  small_places sinks are = All-weaker IsSink (λ (s : (ℕ × ℕ) × (ℕ × ℕ)). IsSmall s.1)
      (λ s is. small_sub s.1.1 is.2.1) sinks are.1

  dummy_mappable : (node bits : ℕ) (m : Mapped) → bits < 256 → dummy_for devices node bits ≡ Some m → IsMappable m
  dummy_mappable node bits m few e = by (dummy_type bits) e
    where
      allowed : (b : Bool) (kind : ℕ) → (if b then Some (mapped_to (kind, 0) bits) else None) ≡ Some m → IsMappable m
      allowed true kind e = let made : Mapped = mapped_to (kind, 0) bits in let same : made ≡ m = cc
          in subst IsMappable same (mappable made few (omega arith))
      allowed false kind e = cc

      by : (o : Option ℕ) → option_and_then (λ kind. if devices.dummy node kind then Some (mapped_to (kind, 0) bits)
          else None) o ≡ Some m → IsMappable m
      by None e = cc
      by (Some kind) e = allowed (devices.dummy node kind) kind e

  taken_mappable_at : (sinks : Sinks) → AreSinks sinks → (node : ℕ) (s : ℕ × (ℕ × ℕ)) (m : Mapped)
      → taken_at devices sender sinks node s ≡ Some m → IsMappable m
  taken_mappable_at sinks are node s m e = by (sink_at sinks s.0 node) (width_at devices sender s.1) refl refl e
    where
      by : (o : Option (ℕ × ℕ)) (w : Option ℕ) → sink_at sinks s.0 node ≡ o → width_at devices sender s.1 ≡ w
          → option_or (option_map (λ place. mapped_to place (source_bits devices sender s)) o)
          (option_and_then (dummy_for devices node) w) ≡ Some m → IsMappable m
      by (Some place) w at is e =
          let made : Mapped = mapped_to place (source_bits devices sender s) in
          let same : made ≡ m = cc in
          subst IsMappable same (mappable made (few_source_bits s)
          (looked_up IsSmall (is_at (seat_cmp (s.0, node))) sinks place (small_places sinks are) at))
      by None None at is e = cc
      by None (Some bits) at is e = dummy_mappable node bits m (few_bits s.1 bits is) e

  taken_mappable : (sources : Sources) (sinks : Sinks) → AreSinks sinks → (node : ℕ)
      → AreMapped (taken_mapping devices sender sources sinks node)
  unfolding AreMapped taken_mapping
  taken_mappable sources sinks are node =
      All-filter_map (taken_at devices sender sinks node) IsMappable (taken_mappable_at sinks are node) sources

-- ---- messages

-- the numbers that the writes of a message have are bytes
pub record IsWritable (c : Clean) : Type 0 where
  pub sent : AreMapped c.mapping
  pub taken : All (λ (k : Consumer). AreMapped k.mapping) c.consumers
  pub transmission : c.message.transmission < 256
  pub start : c.start < 256

consumer_writable : (had : Had) (devices : Devices) (m : Linked) → AreSinks m.sinks → (node : ℕ) (k : Consumer)
    → consumer_of had devices m node ≡ Some k → AreMapped k.mapping
consumer_writable had devices m are node k e =
    subst AreMapped (consumer_is had devices m node k e).mapping
    (taken_mappable devices m.message.node m.sources m.sinks are node)

consumers_writable : (had : Had) (devices : Devices) (m : Linked) → AreSinks m.sinks
    → All (λ (k : Consumer). AreMapped k.mapping) (planned_consumers had devices m)
unfolding planned_consumers
consumers_writable had devices m are =
    All-from_recursion (λ (k : Consumer). AreMapped k.mapping) (planned_consumers had devices m)
    (each_given (consumer_of had devices m) (λ (k : Consumer). AreMapped k.mapping)
    (consumer_writable had devices m are) (consumers_of m.sinks))

writable_transmission : (m : Message) → IsMessage m → m.transmission < 256
unfolding IsMessage
writable_transmission m is = small_sub m.transmission is.3

small_start : (start : ℕ) → is_start start ≡ true → start < 256
small_start start is = grind (arith, nat_tests)

writable : (devices : Devices) (withheld : Withheld) (before : List Clean) (m : Linked) (c : Clean) → IsLinked m
    → judged_message (had_by withheld before) devices m ≡ Planned c → IsWritable c
unfolding IsLinked
writable devices withheld before m c kept e =
    let is = judged_clean (had_by withheld before) devices m c e in
    record {
      sent = subst AreMapped is.mapping (sent_mappable devices m.message.node m.sources kept.2);
      taken = subst (λ (ks : List Consumer). All (λ (k : Consumer). AreMapped k.mapping) ks) is.consumers
          (consumers_writable (had_by withheld before) devices m kept.3);
      transmission = subst (λ (x : Message). x.transmission < 256) is.message (writable_transmission m.message kept.0);
      start = subst (λ (n : ℕ). n < 256) is.start (small_start m.start kept.1);
    }

pub all_writable : (p : Content) → IsSound p → All IsWritable (clean (plan_of_project p))
unfolding plan_of_project
all_writable p sound =
    let devices : Devices = devices_of (is_three p.version) (controller_of p) (sheets_of_members p) in
    all_clean IsWritable _ (each_within devices (λ before c. IsWritable c) (writable devices) (entries p.messages)
    (all_linked p sound))
