use Rattle.std.proofs.Common.{◌≡◌, ℕ, All, Bor, List, [], ◌∷◌, ◌++◌, true, Some, append_assoc, rules, ap, sym, subst, ◌∙◌}
use Rattle.std.specs.Prelude.{filter_map}
use Rattle.std.specs.BTreeMap.{get}
use Rattle.std.specs.List.{flat_map}
use Rattle.std.specs.Ordering.{nat_cmp}
use Rattle.std.proofs.lemmas.List.Elements.{All-contains, All-head, All-tail, All-weaker}
use Rattle.base.specs.Ranges.{is_between}
use Rattle.concise_dcf.specs.declared.write.Write.{Write}
use Rattle.pdo_choices.specs.declared.clean.Clean.{Clean}
use Rattle.pdo_plan.specs.Plan.{clean}
use Rattle.pdo_choices.specs.Limits.{IsWithin}
use Rattle.pdo_links.specs.Tables.{AreValues, IsTableOf}
use Rattle.pdo_links.specs.PdoWrites.{tpdo_of}
use Rattle.pdo_links.specs.Writes.{tpdo_writes, by_number}
use Rattle.pdo_links.proofs.Numbered.{append_none, Sends, sends, there}
use Rattle.pdo_links.proofs.Rising.{by_table}
use Rattle.pdo_links.proofs.Sizes.{few_tpdos}
use Rattle.pdo_links.proofs.Values.{both_values, no_values}
use Rattle.pdo_links.proofs.tpdo.put_tpdos.Goals as goal

pub pdos-init : goal.pdos-init
pdos-init c =
    let node : ℕ = c.args.node in
    let cs : List Clean = clean c.args.plan.now in
    let pdos : List (ℕ × Clean) = filter_map (tpdo_of node) cs in
    let f : Clean → List Write = tpdo_writes c.args.device.now node in
    let g : ℕ × Bor Clean → List Write = λ e. f e.1.now in
    let shows : Bor Clean → Clean = λ k. k.now in
    let es : List (ℕ × Bor Clean) = c.in_ok-tpdos.tpdos.entries in
    let within = rw c.messages.ensures.list at c.messages.ensures.within in
    let table : IsTableOf shows es pdos = rw c.messages.ensures.list at c.in_ok-tpdos.ensures in
    let is : c.into_iter-number-iterator.result ≡ es =
    c.into_iter-number-iterator.ensures.into_iter_gives ∙ c.iter-number-items.ensures.rest in
    let sent : All (λ (e : ℕ × Bor Clean). Sends cs node e.0 e.1.now) es =
    All-weaker (λ (e : ℕ × Bor Clean). get nat_cmp c.in_ok-tpdos.tpdos e.0 ≡ Some e.1)
    (λ (e : ℕ × Bor Clean). Sends cs node e.0 e.1.now)
    (λ e found. sends cs node e.0 e.1.now (there shows es pdos e.0 table e.1 (sym found))) es
    c.iter-number-items.ensures.found in
    let numbered : All (λ (e : ℕ × Bor Clean). is_between 1 512 e.0 ≡ true) es =
    All-weaker (λ (e : ℕ × Bor Clean). Sends cs node e.0 e.1.now)
    (λ (e : ℕ × Bor Clean). is_between 1 512 e.0 ≡ true)
    (λ e s. subst (λ n. is_between 1 512 n ≡ true) s.numbered
    (All-contains IsWithin cs e.1.now within s.message).sent.0) es sent in
    let all : by_number f pdos ≡ flat_map g es =
    by_table shows f c.in_ok-tpdos.tpdos pdos c.iter-number-items.ensures.ordered table numbered in
    let left : flat_map g c.into_iter-number-iterator.result ≡ by_number f pdos = ap (flat_map g) is ∙ sym all in
    record {
      written = ap (λ (ws : List Write). c.args.writes.now.items ++ ws) left;
      sent = subst (All (λ (e : ℕ × Bor Clean). Sends cs node e.0 e.1.now)) (sym is) sent;
      fits = λ made v. subst (AreValues c.args.device.now) left v;
    }

pub put_tpdo-requires : goal.put_tpdo-requires
put_tpdo-requires c =
    let cs : List Clean = clean c.args.plan.now in
    let e : ℕ × Bor Clean = (c.in-Some._number.now, c.in-Some.clean.now) in
    let left : c.pdos._number-iterator ≡ e ∷ c.next.new.self = search rules in
    let sent = All-head (λ (e : ℕ × Bor Clean). Sends cs c.args.node e.0 e.1.now) e c.next.new.self
    (subst (All (λ (e : ℕ × Bor Clean). Sends cs c.args.node e.0 e.1.now)) left c.pdos.invariant.sent) in
    All-contains IsWithin cs e.1.now (rw c.messages.ensures.list at c.messages.ensures.within) sent.message

pub pdos-preserved : goal.pdos-preserved
pdos-preserved c =
    let node : ℕ = c.args.node in
    let cs : List Clean = clean c.args.plan.now in
    let f : Clean → List Write = tpdo_writes c.args.device.now node in
    let g : ℕ × Bor Clean → List Write = λ e. f e.1.now in
    let old : List Write = c.pdos.writes.items in
    let e : ℕ × Bor Clean = (c.in-Some._number.now, c.in-Some.clean.now) in
    let rest : List (ℕ × Bor Clean) = c.next.new.self in
    let left : c.pdos._number-iterator ≡ e ∷ rest = search rules in
    let sent : All (λ (e : ℕ × Bor Clean). Sends cs node e.0 e.1.now) (e ∷ rest) =
    subst (All (λ (e : ℕ × Bor Clean). Sends cs node e.0 e.1.now)) left c.pdos.invariant.sent in
    let here = All-head (λ (e : ℕ × Bor Clean). Sends cs node e.0 e.1.now) e rest sent in
    record {
      written = ap (λ (ws : List Write). ws ++ flat_map g rest) c.in_ok-put_tpdo.ensures.writes
          ∙ append_assoc old (f e.1.now) (flat_map g rest)
          ∙ ap (λ (es : List (ℕ × Bor Clean)). old ++ flat_map g es) (sym left) ∙ c.pdos.invariant.written;
      sent = All-tail (λ (e : ℕ × Bor Clean). Sends cs node e.0 e.1.now) e rest sent;
      fits = λ made v. c.pdos.invariant.fits made
          (subst (λ (es : List (ℕ × Bor Clean)). AreValues c.args.device.now (flat_map g es)) (sym left)
          (both_values c.args.device.now (f e.1.now) (flat_map g rest)
          (c.in_ok-put_tpdo.ensures.fits ((made e.1.now here.message).0 here.sender)) v));
    }

pub returns-clause-writes : goal.returns-clause-writes
returns-clause-writes c =
    let g : ℕ × Bor Clean → List Write = λ e. tpdo_writes c.args.device.now c.args.node e.1.now in
    let empty : c.pdos._number-iterator ≡ [] = search rules in
    sym (append_none c.pdos.writes.items)
    ∙ ap (λ (es : List (ℕ × Bor Clean)). c.pdos.writes.items ++ flat_map g es) (sym empty) ∙ c.pdos.invariant.written

pub returns-clause-fits : goal.returns-clause-fits
returns-clause-fits c = λ made.
    let g : ℕ × Bor Clean → List Write = λ e. tpdo_writes c.args.device.now c.args.node e.1.now in
    let empty : c.pdos._number-iterator ≡ [] = search rules in
    c.pdos.invariant.fits made
    (subst (λ (es : List (ℕ × Bor Clean)). AreValues c.args.device.now (flat_map g es)) (sym empty)
    (no_values c.args.device.now))

pub returns-clause-few : goal.returns-clause-few
returns-clause-few c =
    few_tpdos c.args.device.now c.args.node (filter_map (tpdo_of c.args.node) (clean c.args.plan.now))
    (λ number k is.
    (All-contains IsWithin (clean c.args.plan.now) k (rw c.messages.ensures.list at c.messages.ensures.within)
    (sends (clean c.args.plan.now) c.args.node number k is).message).sent.1)
