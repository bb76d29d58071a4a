use Rattle.std.proofs.Common.{ap}
use Rattle.image_parts.specs.Contents.{BootIs, DefaultsAre, ExpectIs, ShapeIs}
use Rattle.project_parts.proofs.MadeLemmas.{defaults_are, expects_are, shapes_are, writes_are}
use Rattle.project_parts.proofs.laws.the_image_is_made_of_what_is_given.Goals as goal

pub returns-clause-defaults : goal.returns-clause-defaults
returns-clause-defaults c = λ p n. ap DefaultsAre (defaults_are p n)

pub returns-clause-shape : goal.returns-clause-shape
returns-clause-shape c = λ p n. ap ShapeIs (shapes_are p n)

pub returns-clause-expect : goal.returns-clause-expect
returns-clause-expect c = λ p n. ap ExpectIs (expects_are p n)

pub returns-clause-writes : goal.returns-clause-writes
returns-clause-writes c = λ p n place. ap BootIs (writes_are p n place)
