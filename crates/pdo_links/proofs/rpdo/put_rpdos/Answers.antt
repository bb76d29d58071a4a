use Rattle.std.proofs.Common.{◌≡◌, ℕ, All, List, [], ◌∷◌, ◌++◌, true, Some, append_assoc, rules, ap, sym, subst, ◌∙◌}
use Rattle.std.specs.Prelude.{filter_map}
use Rattle.std.specs.BTreeMap.{get}
use Rattle.std.specs.List.{flat_map}
use Rattle.std.specs.Ordering.{nat_cmp}
use Rattle.std.proofs.lemmas.List.Elements.{All-contains, All-head, All-tail, All-weaker}
use Rattle.base.specs.Ranges.{is_between}
use Rattle.concise_dcf.specs.declared.write.Write.{Write}
use Rattle.pdo_choices.specs.declared.clean.Clean.{Clean}
use Rattle.pdo_choices.specs.declared.consumer.Consumer.{Consumer}
use Rattle.pdo_plan.specs.Plan.{clean}
use Rattle.pdo_choices.specs.Limits.{IsNumbered, IsWithin}
use Rattle.pdo_links.specs.declared.taken.Taken.{Taken}
use Rattle.pdo_links.specs.Tables.{AreValues, IsTableOf}
use Rattle.pdo_links.specs.PdoWrites.{rpdo_of}
use Rattle.pdo_links.specs.Writes.{rpdo_writes, by_number}
use Rattle.pdo_links.proofs.Numbered.{append_none, Takes, takes, there}
use Rattle.pdo_links.proofs.Rising.{by_table}
use Rattle.pdo_links.proofs.Sizes.{few_rpdos}
use Rattle.pdo_links.proofs.Values.{both_values, no_values}
use Rattle.pdo_links.proofs.rpdo.put_rpdos.Goals as goal

abbrev shown : Taken → Clean × Consumer
shown t = (t.clean.now, t.consumer.now)

abbrev both : Clean × Consumer → List Write
both t = rpdo_writes t.0 t.1

abbrev written_of : ℕ × Taken → List Write
written_of e = both (shown e.1)

abbrev IsTaken : List Clean → ℕ → ℕ × Taken → Type 0
IsTaken cs node e = Takes cs node e.0 (shown e.1)

-- the number of an RPDO that a node takes, and what it maps, are within their limits
numbered_of : (cs : List Clean) (node number : ℕ) (t : Clean × Consumer) → All IsWithin cs → Takes cs node number t
    → IsNumbered t.1.rpdo t.1.mapping
numbered_of cs node number t within taken =
    All-contains (λ (k : Consumer). IsNumbered k.rpdo k.mapping) t.0.consumers t.1
    (All-contains IsWithin cs t.0 within taken.message).taken taken.consumer

pub pdos-init : goal.pdos-init
pdos-init c =
    let node : ℕ = c.args.node in
    let cs : List Clean = clean c.args.plan.now in
    let pdos : List (ℕ × (Clean × Consumer)) = filter_map (rpdo_of node) cs in
    let es : List (ℕ × Taken) = c.in_ok-rpdos.rpdos.entries in
    let within : All IsWithin cs = rw c.messages.ensures.list at c.messages.ensures.within in
    let table : IsTableOf shown es pdos = rw c.messages.ensures.list at c.in_ok-rpdos.ensures in
    let is : c.into_iter-number-iterator.result ≡ es =
    c.into_iter-number-iterator.ensures.into_iter_gives ∙ c.iter-number-items.ensures.rest in
    let taken : All (IsTaken cs node) es =
    All-weaker (λ (e : ℕ × Taken). get nat_cmp c.in_ok-rpdos.rpdos e.0 ≡ Some e.1) (IsTaken cs node)
    (λ e found. takes cs node e.0 (shown e.1) (there shown es pdos e.0 table e.1 (sym found))) es
    c.iter-number-items.ensures.found in
    let numbered : All (λ (e : ℕ × Taken). is_between 1 512 e.0 ≡ true) es =
    All-weaker (IsTaken cs node) (λ (e : ℕ × Taken). is_between 1 512 e.0 ≡ true)
    (λ e t. subst (λ n. is_between 1 512 n ≡ true) t.numbered (numbered_of cs node e.0 (shown e.1) within t).0)
    es taken in
    let all : by_number both pdos ≡ flat_map written_of es =
    by_table shown both c.in_ok-rpdos.rpdos pdos c.iter-number-items.ensures.ordered table numbered in
    let left : flat_map written_of c.into_iter-number-iterator.result ≡ by_number both pdos =
    ap (flat_map written_of) is ∙ sym all in
    record {
      written = ap (λ (ws : List Write). c.args.writes.now.items ++ ws) left;
      taken = subst (All (IsTaken cs node)) (sym is) taken;
      fits = λ sheet made v. subst (AreValues sheet) left v;
    }

pub put_rpdo-requires : goal.put_rpdo-requires
put_rpdo-requires c =
    let cs : List Clean = clean c.args.plan.now in
    let e : ℕ × Taken = (c.in-Some._number.now, c.in-Some.taken.now) in
    let left : c.pdos._number-iterator ≡ e ∷ c.next.new.self = search rules in
    numbered_of cs c.args.node e.0 (shown e.1) (rw c.messages.ensures.list at c.messages.ensures.within)
    (All-head (IsTaken cs c.args.node) e c.next.new.self
    (subst (All (IsTaken cs c.args.node)) left c.pdos.invariant.taken))

pub pdos-preserved : goal.pdos-preserved
pdos-preserved c =
    let node : ℕ = c.args.node in
    let cs : List Clean = clean c.args.plan.now in
    let old : List Write = c.pdos.writes.items in
    let e : ℕ × Taken = (c.in-Some._number.now, c.in-Some.taken.now) in
    let rest : List (ℕ × Taken) = c.next.new.self in
    let left : c.pdos._number-iterator ≡ e ∷ rest = search rules in
    let taken : All (IsTaken cs node) (e ∷ rest) = subst (All (IsTaken cs node)) left c.pdos.invariant.taken in
    let here = All-head (IsTaken cs node) e rest taken in
    record {
      written = ap (λ (ws : List Write). ws ++ flat_map written_of rest) c.in_ok-put_rpdo.ensures.writes
          ∙ append_assoc old (written_of e) (flat_map written_of rest)
          ∙ ap (λ (es : List (ℕ × Taken)). old ++ flat_map written_of es) (sym left) ∙ c.pdos.invariant.written;
      taken = All-tail (IsTaken cs node) e rest taken;
      fits = λ sheet made v. c.pdos.invariant.fits sheet made
          (subst (λ (es : List (ℕ × Taken)). AreValues sheet (flat_map written_of es)) (sym left)
          (both_values sheet (written_of e) (flat_map written_of rest) (c.in_ok-put_rpdo.ensures.fits sheet node
          ((made e.1.clean.now here.message).1 e.1.consumer.now here.consumer here.taker)) v));
    }

pub returns-clause-writes : goal.returns-clause-writes
returns-clause-writes c =
    let empty : c.pdos._number-iterator ≡ [] = search rules in
    sym (append_none c.pdos.writes.items)
    ∙ ap (λ (es : List (ℕ × Taken)). c.pdos.writes.items ++ flat_map written_of es) (sym empty)
    ∙ c.pdos.invariant.written

pub returns-clause-fits : goal.returns-clause-fits
returns-clause-fits c = λ sheet made.
    let empty : c.pdos._number-iterator ≡ [] = search rules in
    c.pdos.invariant.fits sheet made
    (subst (λ (es : List (ℕ × Taken)). AreValues sheet (flat_map written_of es)) (sym empty) (no_values sheet))

pub returns-clause-few : goal.returns-clause-few
returns-clause-few c =
    few_rpdos (filter_map (rpdo_of c.args.node) (clean c.args.plan.now)) (λ number t is.
    (numbered_of (clean c.args.plan.now) c.args.node number t
    (rw c.messages.ensures.list at c.messages.ensures.within)
    (takes (clean c.args.plan.now) c.args.node number t is)).1)
