use Rattle.std.proofs.Common.{◌≡◌, ℕ, ◌+◌, ◌<◌, ◌≤◌, Bor, List, [], ◌++◌, Option, refl, sym, subst, ap, ◌∙◌, arith}
use Rattle.std.specs.Prelude.{filter_map}
use Rattle.std.specs.BTreeMap.{is_at}
use Rattle.std.specs.Map.{lookup}
use Rattle.std.specs.Option.{option_copied, option_map, option_map_or}
use Rattle.std.specs.Ordering.{nat_cmp}
use Rattle.std.proofs.lemmas.List.Elements.{All-contains}
use Rattle.cia301.specs.PdoObjects.{tpdo_object}
use Rattle.concise_dcf.specs.declared.write.Write.{Write}
use Rattle.pdo_choices.specs.declared.clean.Clean.{Clean}
use Rattle.pdo_plan.specs.Plan.{clean}
use Rattle.pdo_choices.specs.Limits.{IsWithin}
use Rattle.pdo_links.specs.PdoWrites.{tpdo_of}
use Rattle.pdo_links.specs.Tables.{IsTableOf}
use Rattle.pdo_links.specs.VendorWrites.{unused_writes, vendor_tpdo_writes}
use Rattle.pdo_links.proofs.EachNumber.{all_numbers, all_values, at_each, continued_values, nothing_at, started_values}
use Rattle.pdo_links.proofs.EachNumber.{AreValuesTo}
use Rattle.pdo_links.proofs.NumberLemmas.{begun, ended, further, walked}
use Rattle.pdo_links.proofs.Numbered.{sends}
use Rattle.pdo_links.proofs.Tabled.{tabled}
use Rattle.pdo_links.proofs.Used.{sent_within}
use Rattle.pdo_links.proofs.VendorSizes.{few_vendor_tpdos}
use Rattle.pdo_links.proofs.vendor_tpdo.put_vendor_tpdos.Goals as goal

pub numbers-init : goal.numbers-init
numbers-init c =
    let f : Clean → List Write = vendor_tpdo_writes c.args.device.now in
    let none : ℕ → List Write = λ number. unused_writes c.args.device.now (tpdo_object number) in
    let pdos : List (ℕ × Clean) = filter_map (tpdo_of c.args.node) (clean c.args.plan.now) in
    let shows : Bor Clean → Clean = λ k. k.now in
    let table : IsTableOf shows c.in_ok-tpdos.tpdos.entries pdos = rw c.messages.ensures.list at c.in_ok-tpdos.ensures in
    let nothing : (k : ℕ) → 1 ≤ k → k < c.next_written-number.result → at_each f none pdos k ≡ [] =
    λ k low below. nothing_at f none pdos k
    (sym (tabled shows c.in_ok-tpdos.tpdos.entries pdos k table) ∙ ap (option_map shows) (c.next_written-number.ensures.unused k low below))
    (c.next_written-number.ensures.nothing k low below) in
    record {
      low = c.next_written-number.ensures.low;
      high = c.next_written-number.ensures.high;
      written = further (at_each f none pdos) c.args.writes.now.items c.args.writes.now.items 1
          c.next_written-number.result c.next_written-number.ensures.low c.next_written-number.ensures.high nothing
          (begun (at_each f none pdos) c.args.writes.now.items c.args.writes.now.items refl);
      fits = λ sheet node same. started_values f none pdos sheet c.next_written-number.result nothing;
    }

pub put_numbered-requires-clause-within : goal.put_numbered-requires-clause-within
put_numbered-requires-clause-within c =
    let cs : List Clean = clean c.args.plan.now in
    let pdos : List (ℕ × Clean) = filter_map (tpdo_of c.args.node) cs in
    let shows : Bor Clean → Clean = λ k. k.now in
    let table : IsTableOf shows c.in_ok-tpdos.tpdos.entries pdos = rw c.messages.ensures.list at c.in_ok-tpdos.ensures in
    sent_within cs c.args.node c.numbers.number c.used_at.result (rw c.messages.ensures.list at c.messages.ensures.within)
    (ap option_copied c.used_at.ensures ∙ tabled shows c.in_ok-tpdos.tpdos.entries pdos c.numbers.number table)

pub numbers-preserved : goal.numbers-preserved
numbers-preserved c =
    let f : Clean → List Write = vendor_tpdo_writes c.args.device.now in
    let none : ℕ → List Write = λ number. unused_writes c.args.device.now (tpdo_object number) in
    let pdos : List (ℕ × Clean) = filter_map (tpdo_of c.args.node) (clean c.args.plan.now) in
    let number : ℕ = c.numbers.number in
    let shows : Bor Clean → Clean = λ k. k.now in
    let table : IsTableOf shows c.in_ok-tpdos.tpdos.entries pdos = rw c.messages.ensures.list at c.in_ok-tpdos.ensures in
    let part : List Write = option_map_or f (option_copied c.used_at.result) (none number) in
    let here : part ≡ option_map_or f (lookup (is_at (nat_cmp number)) pdos) (none number) =
    ap (λ (o : Option Clean). option_map_or f o (none number))
    (ap option_copied c.used_at.ensures ∙ tabled shows c.in_ok-tpdos.tpdos.entries pdos number table) in
    let nothing : (k : ℕ) → number + 1 ≤ k → k < c.next_written-number-in-numbers.result → at_each f none pdos k ≡ [] =
    λ k low below. nothing_at f none pdos k
    (sym (tabled shows c.in_ok-tpdos.tpdos.entries pdos k table) ∙ ap (option_map shows) (c.next_written-number-in-numbers.ensures.unused k low below))
    (c.next_written-number-in-numbers.ensures.nothing k low below) in
    record {
      low = omega (arith, c.next_written-number-in-numbers.ensures.low);
      high = c.next_written-number-in-numbers.ensures.high;
      written = further (at_each f none pdos) c.args.writes.now.items c.put_numbered.new.writes.items (number + 1)
          c.next_written-number-in-numbers.result c.next_written-number-in-numbers.ensures.low c.next_written-number-in-numbers.ensures.high nothing
          (walked (at_each f none pdos) c.args.writes.now.items c.numbers.writes.items
          c.put_numbered.new.writes.items number
          (c.in_ok-put_numbered.ensures.writes ∙ ap (λ (ws : List Write). c.numbers.writes.items ++ ws) here)
          c.numbers.invariant.written);
      fits = λ sheet node same. continued_values f none pdos sheet part number c.next_written-number-in-numbers.result
          (c.numbers.invariant.fits sheet node same) (c.in_ok-put_numbered.ensures.fits sheet node same) here nothing;
    }

pub returns-clause-writes : goal.returns-clause-writes
returns-clause-writes c =
    let f : Clean → List Write = vendor_tpdo_writes c.args.device.now in
    let none : ℕ → List Write = λ number. unused_writes c.args.device.now (tpdo_object number) in
    let pdos : List (ℕ × Clean) = filter_map (tpdo_of c.args.node) (clean c.args.plan.now) in
    ended (at_each f none pdos) c.args.writes.now.items c.numbers.writes.items c.numbers.number (omega arith)
    c.numbers.invariant.written
    ∙ ap (λ (ws : List Write). c.args.writes.now.items ++ ws) (sym (all_numbers f none pdos))

pub returns-clause-fits : goal.returns-clause-fits
returns-clause-fits c = λ sheet node same.
    let f : Clean → List Write = vendor_tpdo_writes c.args.device.now in
    let none : ℕ → List Write = λ number. unused_writes c.args.device.now (tpdo_object number) in
    let pdos : List (ℕ × Clean) = filter_map (tpdo_of c.args.node) (clean c.args.plan.now) in
    let last : c.numbers.number ≡ 513 = omega (arith, c.numbers.invariant.high) in
    all_values f none pdos sheet (subst (AreValuesTo f none pdos sheet) last (c.numbers.invariant.fits sheet node same))

pub returns-clause-few : goal.returns-clause-few
returns-clause-few c =
    few_vendor_tpdos c.args.device.now (filter_map (tpdo_of c.args.node) (clean c.args.plan.now))
    (λ number k is.
    (All-contains IsWithin (clean c.args.plan.now) k (rw c.messages.ensures.list at c.messages.ensures.within)
    (sends (clean c.args.plan.now) c.args.node number k is).message).sent.1)
