use Rattle.co_segments.proofs.segment.Segment.serves.Goals as goal

pub same-requires : goal.same-requires
same-requires g c =
    let r = c.requires in
    let named = rw (← c.self.view_is) at r.named in
    (r.meaning.buses, (c.args.given.now.buses, (named.start, r.state)))

pub matches-requires : goal.matches-requires
matches-requires g c =
    let r = c.requires in
    let named = rw (← c.self.view_is) at r.named in
    (r.meaning.contents, (r.known, rw c.deref.ensures.value named.reads))

pub returns-clause-known : goal.returns-clause-known
returns-clause-known g c contents h m =
    c.in_ok-same.ensures.known contents h (rw c.deref.ensures.value (rw (← c.self.view_is) at m))
