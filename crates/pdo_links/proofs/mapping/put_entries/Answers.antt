use Rattle.std.proofs.Common.{rules, refl}
use Rattle.pdo_links.proofs.Mappings.{none_mapped, one_more, written_more}
use Rattle.pdo_links.proofs.mapping.put_entries.Goals as goal

pub loop-place-init : goal.loop-place-init
loop-place-init c = (search rules, none_mapped)

pub loop-place-preserved : goal.loop-place-preserved
loop-place-preserved c = (
  written_more _ c.args.mapping.now c.loop-place.place _ _ _ _ _ c.loop-place-test.true refl
      c.in_ok-put_mapped.ensures.writes c.loop-place.invariant.0,
  one_more c.args.mapping.now c.loop-place.place _ _ c.loop-place-test.true refl c.put_mapped.ensures.bytes
      c.loop-place.invariant.1,
)
