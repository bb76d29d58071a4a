-- What a `Described` and a `DefaultText` of the program are.
use Rattle.eds_entries.specs.declared.described.DefaultText.{DefaultText}
use Rattle.eds_entries.specs.declared.described.DefaultText.TheVariants.{Written, Count}
use Rattle.eds_entries.specs.declared.described.Described.{Described as ReadDescribed}
use Rattle.eds_entries.specs.Described.{Default, written, count, Described}

-- a default
abbrev pub default_shown : DefaultText → Default
default_shown (Written text) = written text
default_shown (Count n) = count n

-- what is said of an entry
abbrev pub description_shown : ReadDescribed → Described
description_shown d = record {
  kind = d.kind;
  access = d.access;
  mappable = d.mappable;
  default = default_shown d.default;
  low = d.low;
  high = d.high;
}
