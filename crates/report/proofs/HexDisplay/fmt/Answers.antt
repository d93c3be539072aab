use Rattle.std.proofs.Common.{◌≡◌, ℕ, List, ◌++◌, sym, ap, ◌∙◌, rules, append_assoc}
use Rattle.std.proofs.Output.{has_written_append}
use Rattle.std.proofs.lemmas.Str.{IsUtf8-from_ascii}
use Rattle.report.specs.HexText.{hex_text}
use Rattle.report.proofs.Lines.{hex_text_append}
use Rattle.report.proofs.HexDisplay.fmt.Goals as goal

pub unreachable-requires : goal.unreachable-requires
unreachable-requires g c = c.in_default.ensures.cases.0 (IsUtf8-from_ascii _ c.put_digits.ensures.ascii)

pub loop-bytes-preserved : goal.loop-bytes-preserved
loop-bytes-preserved g c =
    let steps = c.in-Some.ensures.steps in
    let text : c.in-Ok.text.now ≡ hex_text c.in-Some.bytes.now = c.in-Ok.ensures.cases.0 ∙ c.put_digits.ensures.digits in (
      search rules,
      tt,
      steps.0 ∙ c.loop-bytes.invariant.2,
      λ plain.
          let so_far = c.loop-bytes.invariant.3 plain in (
            so_far.0 ++ c.in-Ok.text.now,
            has_written_append _ _ _ _ _ _ so_far.1 (search rules),
            append_assoc so_far.0 _ _
                ∙ ap (λ (t : List ℕ). so_far.0 ++ t) (rw text (sym (hex_text_append _ _) ∙ ap hex_text (sym steps.1.0)))
                ∙ so_far.2,
          ),
    )
