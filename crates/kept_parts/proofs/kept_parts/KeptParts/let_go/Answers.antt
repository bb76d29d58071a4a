use Rattle.std.proofs.Common.{refl, rules}
use Rattle.kept_parts.proofs.GoneLemmas.{all_left, left, left_is_of}
use Rattle.kept_parts.proofs.kept_parts.KeptParts.let_go.Goals as goal

pub returns-then-self-clause-left : goal.returns-then-self-clause-left
returns-then-self-clause-left c = all_left c.args.project.now c.args.self.now (search rules) c.requires.swept

pub returns-clause-left : goal.returns-clause-left
returns-clause-left c =
    left c.args.project.now c.args.self.now (record c.args.self.now {
      devices = c.let_go.new.self;
      writes = c.keep_flagged.new.self;
      concise = c.keep_flagged-2.new.self;
      dcf = c.keep_flagged-3.new.self;
      nodes = c.keep_flagged-4.new.self;
    }) c.let_go.ensures c.node_flags-nodes.result c.node_flags-nodes.ensures refl c.keep_flagged.ensures.kept
    c.keep_flagged-2.ensures.kept c.keep_flagged-3.ensures.kept refl c.keep_flagged-4.ensures.kept refl refl

pub returns-clause-is_of : goal.returns-clause-is_of
returns-clause-is_of c =
    left_is_of c.args.project.now c.args.self.now _ c.let_go.ensures c.node_flags-nodes.result c.node_flags-nodes.ensures
    refl c.keep_flagged.ensures.kept c.keep_flagged-2.ensures.kept c.keep_flagged-3.ensures.kept refl
    c.keep_flagged-4.ensures.kept refl refl c.keep_flagged.ensures.fresh c.keep_flagged-2.ensures.fresh
    c.keep_flagged-3.ensures.fresh c.keep_flagged-4.ensures.fresh c.requires.is_of
