use Rattle.std.proofs.Common.{nat_eq, sym, ap, ◌∙◌, Some}
use Rattle.std.specs.Map.{keys_of}
use Rattle.std.specs.List.{IsDistinct}
use Rattle.std.proofs.lemmas.Option.{none-some, same_Some}
use Rattle.kept_values.proofs.NumberLemmas.{found_at, none_at}
use Rattle.kept_values.proofs.rest.Rest.at.Goals as goal

pub returns-in-None-clause-is : goal.returns-in-None-clause-is
returns-in-None-clause-is g c =
    rw (← c.self.view_is) (sym (none_at g.V.Numbered.number_of c.self.inside.cache.entries c.self.inside.index c.args.number c.args.place c.self.invariant.1 (sym c.in-None.ensures)))

pub returns-in-None-get-clause-is : goal.returns-in-None-get-clause-is
returns-in-None-get-clause-is g c =
    let es = c.self.inside.cache.entries in
    let distinct : IsDistinct nat_eq (keys_of es) = rw (← c.self.view_is) at c.len-count.ensures.distinct in
    let f = found_at g.V.Numbered.number_of es c.self.inside.index c.args.number c.args.place c.in-Some.key c.self.invariant.1 distinct (sym c.in-Some.ensures) in
    absurd (none-some f.0 ((rw (← c.self.view_is) at c.in-None-get.ensures) ∙ f.1.1))

pub returns-in-Some-get-clause-is : goal.returns-in-Some-get-clause-is
returns-in-Some-get-clause-is g c =
    let es = c.self.inside.cache.entries in
    let distinct : IsDistinct nat_eq (keys_of es) = rw (← c.self.view_is) at c.len-count.ensures.distinct in
    let f = found_at g.V.Numbered.number_of es c.self.inside.index c.args.number c.args.place c.in-Some.key c.self.invariant.1 distinct (sym c.in-Some.ensures) in
    let same = same_Some c.in-Some-get.value.now f.0 ((rw (← c.self.view_is) at c.in-Some-get.ensures) ∙ f.1.1) in
    rw (← c.self.view_is) (ap (λ v. Some (c.in-Some.key, v)) same ∙ sym f.1.0)
