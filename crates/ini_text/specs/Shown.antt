-- Private: what a `Line` of the program means.
use Rattle.ini_text.specs.declared.line.Line.{Line as Read}
use Rattle.ini_text.specs.declared.line.Line.TheVariants.{Nothing, Header, Pair, Other}
use Rattle.ini_text.specs.Line.{Line, nothing, header, pair, other}

-- the line that it names
abbrev pub line_of_read : Read → Line
line_of_read Nothing = nothing
line_of_read (Header name) = header name.now
line_of_read (Pair key value) = pair key.now value.now
line_of_read Other = other
