use Rattle.std.proofs.Common.{sym, ◌∙◌, ap, length, arith, Ok, rules, ◌≡◌, ◌≤◌, ◌+◌}
use Rattle.uv_script.specs.Before.{Before}
use Rattle.uv_script.specs.Kept.{before_in, seen}
use Rattle.uv_script.proofs.InRange.{no-lines, more-lines}
use Rattle.uv_script.proofs.Left.{IsLeft-start, IsLeft-line, IsLeft-outside, IsLeft-end, on-ok, length-put, number-inside, number-next}
use Rattle.uv_script.proofs.parsing.parse.Goals as goal

pub loop-rest-init : goal.loop-rest-init
loop-rest-init c = record {
  left = IsLeft-start _ _ _ _ c.new-lines.ensures c.new-context.ensures;
  number = omega (arith, ap length c.new-lines.ensures, ap (λ (b : Before). b.number) c.new-context.ensures);
  most = omega (arith, ap (λ (b : Before). b.number) c.new-context.ensures);
  ranges = no-lines _ c.new-lines.ensures;
}

pub returns-then-is_outside : goal.returns-then-is_outside
returns-then-is_outside c =
    IsLeft-outside _ _ _ _ _ c.first_line.result.1.now _ _ c.loop-rest.invariant.left c.first_line.ensures.lines c.in-Ok.ensures (sym c.is_outside.ensures ∙ c.if-is_outside.true)

pub loop-rest-preserved : goal.loop-rest-preserved
loop-rest-preserved c =
    let inside = sym c.is_outside.ensures ∙ c.if-is_outside.false in
    let put = on-ok c.put_read.result c.put_read.ensures.lines (sym c.is_err.ensures.value ∙ c.if-is_err.false) in
    let goes = on-ok c.put_read.result c.put_read.ensures.context (sym c.is_err.ensures.value ∙ c.if-is_err.false) in
    let more : length c.put_read.new.lines ≤ length c.loop-rest.lines + 1 = length-put c.loop-rest.context.number c.loop-rest.lines c.put_read.new.lines (seen c.in-Ok.read) put in
    let under : c.loop-rest.context.number ≤ 20000 = number-inside (before_in c.loop-rest.context) c.first_line.result.0.now (seen c.in-Ok.read) c.in-Ok.ensures inside in
    let next : c.put_read.new.context.number ≡ c.loop-rest.context.number + 1 = number-next (before_in c.loop-rest.context) (before_in c.put_read.new.context) (seen c.in-Ok.read) inside goes in
    record {
      left = IsLeft-line _ _ _ _ _ _ _ c.first_line.result.1.now _ (seen c.in-Ok.read) c.loop-rest.invariant.left c.first_line.ensures.lines c.in-Ok.ensures inside put goes;
      number = omega (arith, more, next, c.loop-rest.invariant.number);
      most = omega (arith, under, next);
      ranges = more-lines (before_in c.loop-rest.context) c.first_line.result.0.now (seen c.in-Ok.read) c.loop-rest.lines c.put_read.new.lines c.loop-rest.invariant.ranges c.in-Ok.ensures put;
    }

pub put_read-requires : goal.put_read-requires
put_read-requires c =
    number-inside (before_in c.loop-rest.context) c.first_line.result.0.now (seen c.in-Ok.read) c.in-Ok.ensures (sym c.is_outside.ensures ∙ c.if-is_outside.false)

pub returns : goal.returns
returns c =
    IsLeft-end _ _ _ _ _ c.loop-rest.invariant.left (search rules) ∙ ap Ok (sym c.of.ensures)

pub of-requires : goal.of-requires
of-requires c = record { limit = omega (arith, c.loop-rest.invariant.number, c.loop-rest.invariant.most); ranges = c.loop-rest.invariant.ranges }
