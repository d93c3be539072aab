-- `report::put_digits` meets its contract. The invariant: the digits of the bytes passed stand in front.
use Rattle.std.proofs.Common.{◌≡◌, ◌*◌, ◌++◌, length, take, drop, IsAscii}
use Rattle.report.specs.HexText.{hex_text}
use Rattle.report.proofs.put_digits.Given as goal

abbrev pub invariant-loop-i : goal.invariant-loop-i
invariant-loop-i l =
    (length l.text ≡ 2 * length l.bytes)
    × (take (2 * l.i) l.text ++ hex_text (drop l.i l.bytes) ≡ hex_text l.bytes)
    × IsAscii (take (2 * l.i) l.text)
