-- How this program reads a concise DCF: from the front, with the first fault that it meets. These steps are its own,
-- and private; the clauses of `decode` join them to the relation in Concise.
use Rattle.std.specs.Prelude.{ℕ, zero, suc, List, [], ◌∷◌, ◌+◌, length, take, drop, slice_index, Result, Ok, Err}
use Rattle.std.specs.Prelude.{nat_lt, ◌==◌, if◌then◌else◌}
use Rattle.byteorder.specs.Endian.{little_number}
use Rattle.concise_dcf.specs.declared.write.Write.{Write}
use Rattle.concise_dcf.specs.declared.fault.ConciseFault.{ConciseFault}
use Rattle.concise_dcf.specs.declared.fault.ConciseFault.TheVariants.{Short, Extra, Empty}
use Rattle.base.specs.Steps.{◌>>=◌}
use Rattle.concise_dcf.specs.Concise.{size_at}

-- the entry at the front, and what stands behind it
unfoldable pub entry_at : List ℕ → Result (Write × List ℕ) ConciseFault
entry_at bytes =
    if nat_lt (length bytes) 7 then Err Short
    else if size_at bytes == 0 then Err Empty
    else if nat_lt (length bytes) (7 + size_at bytes) then Err Short
    else Ok (
      record {
        index = little_number 2 bytes;
        sub = slice_index bytes 2;
        bytes = take (size_at bytes) (drop 7 bytes);
      },
      drop (size_at bytes) (drop 7 bytes),
    )

-- that many entries from the front, and what stands behind them
unfoldable pub entries_at : ℕ → List ℕ → Result (List Write × List ℕ) ConciseFault
entries_at zero bytes = Ok ([], bytes)
entries_at (suc n) bytes = do
  first ← entry_at bytes
  others ← entries_at n first.1
  Ok (first.0 ∷ others.0, others.1)

-- the count, that many entries, and nothing behind them
unfoldable pub all_of : List ℕ → Result (List Write) ConciseFault
all_of bytes =
    if nat_lt (length bytes) 4 then Err Short
    else (entries_at (little_number 4 bytes) (drop 4 bytes) >>= λ x. if length x.1 == 0 then Ok x.0 else Err Extra)
