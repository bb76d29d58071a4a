-- What every message keeps to.
use Rattle.std.proofs.Common.{◌≡◌, ℕ, true, List, [], All, Option, Some, None, refl, sym, subst}
use Rattle.std.proofs.lemmas.Cmp.{nat_cmp_total, nat_list_cmp_total, on_total, then_total}
use Rattle.std.proofs.lemmas.List.Elements.{All-nil}
use Rattle.std.proofs.lemmas.Map.Lookups.{CmpEqualImpliesEq, exact_bytes, exact_pairs, exact_unsigned}
use Rattle.std.specs.BTreeMap.{is_at}
use Rattle.std.specs.Cmp.{IsTotalOrder}
use Rattle.std.specs.FinMap.{empty, entries, get, insert, remove}
use Rattle.std.specs.List.Sorted.{IsStrictlySortedBy}
use Rattle.std.specs.Borrow.{Bor}
use Rattle.std.specs.Option.{IfSome, option_copied, option_map_or}
use Rattle.std.specs.Ordering.{nat_cmp}
use Rattle.base.specs.Ranges.{is_between, AreIndices}
use Rattle.base.proofs.EachLemmas.{all_entries, each_empty, each_put, each_removed}
use Rattle.base.proofs.EntryLemmas.{All-left, All-put, strict-left, strict-put}
use Rattle.project_messages.specs.declared.linked.Linked.{Linked}
use Rattle.project_messages.specs.declared.message.Message.{Message}
use Rattle.project_messages.specs.declared.receive.Receive.{Receive}
use Rattle.project_messages.specs.Messages.{with_changed, is_position, is_start, linked_to, seat_cmp, with_sink, with_source}
use Rattle.project_messages.specs.Messages.{with_receive, with_start, without_receive}
use Rattle.project_messages.specs.Messages.{without_sink, without_source, AreMessages, AreSinks, AreSources, IsLinked}
use Rattle.project_messages.specs.Messages.{AreReceives, IsMessage, IsReceive, IsSink, Named}

-- the order of sinks
pub seats_exact : CmpEqualImpliesEq seat_cmp
seats_exact = exact_pairs nat_cmp nat_cmp exact_unsigned exact_unsigned

pub seats_total : IsTotalOrder seat_cmp
seats_total = then_total (on_total (λ (p : ℕ × ℕ). p.0) nat_cmp_total) (on_total (λ (p : ℕ × ℕ). p.1) nat_cmp_total)

-- ---- one message

no_sources : AreSources []
unfolding AreSources IsStrictlySortedBy
no_sources = (tt, All-nil _, All-nil _)

no_sinks : AreSinks []
unfolding AreSinks IsStrictlySortedBy
no_sinks = (tt, All-nil _)

no_receives : AreReceives []
unfolding AreReceives IsStrictlySortedBy
no_receives = (tt, All-nil _)

-- a message, where a known one keeps its SYNC start value, its sources, its sinks and its receives
pub linked_message : (known : Option Linked) (message : Message) → IsMessage message → IfSome known IsLinked
    → IsLinked (linked_to known message)
unfolding IsLinked
linked_message None message is known = (is, refl, no_sources, no_sinks, no_receives)
linked_message (Some l) message is known = (is, known.1, known.2, known.3, known.4)

-- with another SYNC start value
pub start_put : (l : Linked) (start : ℕ) → IsLinked l → is_start start ≡ true → IsLinked (with_start start l)
unfolding IsLinked
start_put l start is fits = (is.0, fits, is.2, is.3, is.4)

-- with one source more, or another in its place
pub source_put : (l : Linked) (position : ℕ) (place : ℕ × ℕ) → IsLinked l → is_position position ≡ true
    → AreIndices place.0 place.1 → IsLinked (with_source position place l)
unfolding IsLinked AreSources
source_put l position place is fits are =
    let IsSource : ℕ × (ℕ × ℕ) → Type 0 = λ e. is_position e.0 ≡ true in
    let IsPlace : ℕ × (ℕ × ℕ) → Type 0 = λ e. AreIndices e.1.0 e.1.1 in (
      is.0,
      is.1,
      (
        strict-put nat_cmp nat_cmp_total exact_unsigned l.sources position place is.2.0,
        All-put nat_cmp IsSource l.sources position place exact_unsigned is.2.1 fits,
        All-put nat_cmp IsPlace l.sources position place exact_unsigned is.2.2 are,
      ),
      is.3,
      is.4,
    )

-- with one less
pub source_left : (l : Linked) (position : ℕ) → IsLinked l → IsLinked (without_source position l)
unfolding IsLinked AreSources
source_left l position is =
    let test = is_at (nat_cmp position) in
    let IsSource : ℕ × (ℕ × ℕ) → Type 0 = λ e. is_position e.0 ≡ true in
    let IsPlace : ℕ × (ℕ × ℕ) → Type 0 = λ e. AreIndices e.1.0 e.1.1 in (
      is.0,
      is.1,
      (
        strict-left test nat_cmp l.sources is.2.0,
        All-left test IsSource l.sources is.2.1,
        All-left test IsPlace l.sources is.2.2,
      ),
      is.3,
      is.4,
    )

-- with one sink more, or another in its place
pub sink_put : (l : Linked) (position node : ℕ) (place : ℕ × ℕ) → IsLinked l → is_position position ≡ true
    → is_between 1 127 node ≡ true → AreIndices place.0 place.1 → IsLinked (with_sink position node place l)
unfolding IsLinked AreSinks
sink_put l position node place is fits taker are = (
  is.0,
  is.1,
  is.2,
  (
    strict-put seat_cmp seats_total seats_exact l.sinks (position, node) place is.3.0,
    All-put seat_cmp IsSink l.sinks (position, node) place seats_exact is.3.1 (fits, taker, are),
  ),
  is.4,
)

-- with one less
pub sink_left : (l : Linked) (position node : ℕ) → IsLinked l → IsLinked (without_sink position node l)
unfolding IsLinked AreSinks
sink_left l position node is =
    let test = is_at (seat_cmp (position, node)) in
    (is.0, is.1, is.2, (strict-left test seat_cmp l.sinks is.3.0, All-left test IsSink l.sinks is.3.1), is.4)

-- with one receive more, or another in its place
pub receive_put : (l : Linked) (node : ℕ) (receive : Receive) → IsLinked l → IsReceive (node, receive)
    → IsLinked (with_receive node receive l)
unfolding IsLinked AreReceives
receive_put l node receive is fits = (
  is.0,
  is.1,
  is.2,
  is.3,
  (
    strict-put nat_cmp nat_cmp_total exact_unsigned l.receives node receive is.4.0,
    All-put nat_cmp IsReceive l.receives node receive exact_unsigned is.4.1 fits,
  ),
)

-- with one less
pub receive_left : (l : Linked) (node : ℕ) → IsLinked l → IsLinked (without_receive node l)
unfolding IsLinked AreReceives
receive_left l node is =
    let test = is_at (nat_cmp node) in (
      is.0,
      is.1,
      is.2,
      is.3,
      (strict-left test nat_cmp l.receives is.4.0, All-left test IsReceive l.receives is.4.1),
    )

-- ---- all messages

abbrev OfName : List ℕ → Linked → Type 0
OfName name l = IsLinked l

-- no messages
pub no_messages : AreMessages empty
unfolding AreMessages
no_messages = each_empty OfName empty refl

-- the message of a name keeps to the limits
pub limits_at : (ms : Named) (name : List ℕ) → AreMessages ms → IfSome (get ms name) IsLinked
unfolding AreMessages
limits_at ms name are = are name

-- the message of a name keeps to the limits
pub limits_behind : (ms : Named) (name : List ℕ) (o : Option (Bor Linked)) → AreMessages ms
    → option_copied o ≡ get ms name → IfSome o (λ l. IsLinked l.now)
limits_behind ms name None are found = tt
limits_behind ms name (Some l) are found = subst (λ (x : Option Linked). IfSome x IsLinked) (sym found)
    (limits_at ms name are)

-- and so do all
pub limits_of_all : (ms : Named) → AreMessages ms → All (λ e. IsLinked e.1) (entries ms)
unfolding AreMessages
limits_of_all ms are = all_entries nat_list_cmp_total exact_bytes OfName ms are

-- messages with one more, or another in its place
pub messages_put : (ms : Named) (name : List ℕ) (l : Linked) → AreMessages ms → IsLinked l
    → AreMessages (insert ms name l)
unfolding AreMessages
messages_put ms name l are is = each_put nat_list_cmp_total exact_bytes OfName ms name l are is

-- messages without one
pub messages_left : (ms : Named) (name : List ℕ) → AreMessages ms → AreMessages (remove ms name)
unfolding AreMessages
messages_left ms name are = each_removed nat_list_cmp_total exact_bytes OfName ms name are

-- messages of which one is changed
pub messages_changed : (change : Linked → Linked) (ms : Named) (name : List ℕ)
    → ((l : Linked) → IsLinked l → IsLinked (change l)) → AreMessages ms → AreMessages (with_changed change ms name)
messages_changed change ms name keeps are = by (get ms name) (limits_at ms name are)
  where
    by : (found : Option Linked) → IfSome found IsLinked
        → AreMessages (option_map_or (λ known. insert ms name (change known)) found ms)
    by None is = are
    by (Some l) is = messages_put ms name (change l) are (keeps l is)
