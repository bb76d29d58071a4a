use Rattle.std.proofs.Common.{◌≡◌, ℕ, List, [], Option, ◌∙◌, ap, sym}
use Rattle.std.specs.Prelude.{unwrap_or, codes}
use Rattle.ini_text.specs.Content.{Section}
use Rattle.eds_entries.specs.declared.said.Said.{Said}
use Rattle.eds_entries.specs.Described.{text_at, written}
use Rattle.eds_entries.specs.Said.{number_from, pair_of, said_in, text_from, value_from}
use Rattle.eds_entries.proofs.TextLemmas.{value_is_from}
use Rattle.eds_entries.proofs.said.Said.described.Goals as goal

text_is : (text : List ℕ) (section : Section) (at : Option ℕ) (key : List ℕ)
    → text ≡ unwrap_or (value_from section at) [] → at ≡ pair_of section key → text ≡ text_at section key
text_is text section at key h e =
    h ∙ ap (λ (o : Option ℕ). unwrap_or (value_from section o) []) e
    ∙ ap (λ (o : Option (List ℕ)). unwrap_or o []) (value_is_from section key)

module _ (said : Said) (section : Section) (is : said ≡ said_in section) where
  default_kept : said.default_number ≡ number_from section said.default
  unfolding said_in
  default_kept = ap (λ (s : Said). s.default_number) is ∙ ap (λ (s : Said). number_from section s.default) (sym is)

  low_kept : said.low_number ≡ number_from section said.low
  unfolding said_in
  low_kept = ap (λ (s : Said). s.low_number) is ∙ ap (λ (s : Said). number_from section s.low) (sym is)

  high_kept : said.high_number ≡ number_from section said.high
  unfolding said_in
  high_kept = ap (λ (s : Said). s.high_number) is ∙ ap (λ (s : Said). number_from section s.high) (sym is)

pub returns : goal.returns
unfolding said_in
returns c =
    let section = c.args.section.now in
    let default = text_is _ section c.args.self.now.default (codes "DefaultValue") c.spelling_from-default.ensures
    (ap (λ (s : Said). s.default) c.requires) in
    let low =
    text_is _ section c.args.self.now.low (codes "LowLimit") c.spelling_from.ensures
    (ap (λ (s : Said). s.low) c.requires) in
    let high = text_is _ section c.args.self.now.high (codes "HighLimit") c.spelling_from-2.ensures
    (ap (λ (s : Said). s.high) c.requires) in
    λ j. record {
      kind = (c.requires j).kind;
      access = (c.requires j).access;
      mappable = (c.requires j).mappable;
      default = written (default j);
      low = low j;
      high = high j;
    }
