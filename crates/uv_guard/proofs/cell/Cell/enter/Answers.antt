use Rattle.std.proofs.Common.{rules, ◌≡◌, ◌+◌, ◌*◌, ◌/◌, ◌^◌, ◌∙◌, ap, sym, arith, ◌∷◌}
use Rattle.std.specs.Prelude.{Some}
use Rattle.atomic_table.specs.Table.{rest}
use Rattle.uv_guard.specs.Words.{turn_word}
use Rattle.uv_guard.specs.Steps.{finding_more}
use Rattle.uv_guard.proofs.Bits.{bit_is}
use Rattle.uv_guard.proofs.Takes.{refers, reads, turns_to}
use Rattle.uv_guard.proofs.Calls.{comes_in}
use Rattle.uv_guard.proofs.cell.Cell.enter.Goals as goal

pub fetch_or-life-requires : goal.fetch_or-life-requires
fetch_or-life-requires g c = let i = c.requires.out in (search rules, search rules, refers g.T.Celled.goes_on _ _ _ _ i.0 i.3 (bit_is c.args.number i.2 ∙ ap (λ n. 2 ^ n) (sym i.1)))

pub load-seen-requires : goal.load-seen-requires
load-seen-requires g c = (search rules, search rules, reads g.T.Celled.goes_on _ _ _ _)

pub compare_exchange-found-requires : goal.compare_exchange-found-requires
compare_exchange-found-requires g c =
    let i = c.requires.out in let a = c.fetch_or-life.ensures.2 in let b = c.load-seen.ensures.2 in
    let alive : c.fetch_or-life.result / 4294967296 ≡ 4 * c.args.generation + 1 = let f = c.from.ensures in omega arith in
    let e = b ∙ ap (λ m. finding_more m (turn_word c.load-seen.result)) a.1 in (
      search rules,
      search rules,
      turns_to g.T.Celled.goes_on g.T.Celled.same g.T.Celled.further _ _ c.load-seen.result c.args.generation _ (ap (λ m. m.0.role) e ∙ i.0) (ap (λ m. m.0.refers) e ∙ a.2 c.args.generation alive) (ap (λ m. m.0.entered) e ∙ i.3) (let f = c.if-seen-eq1.false in omega arith),
    )

pub exchange-requires : goal.exchange-requires
exchange-requires g c =
    let h = c.compare_exchange-found.ensures.2.0 c.if-found-seen.false in let e = ap (λ m. m.1) h.1 in
    (search rules, (Some h.0.value, e ∙ ap (λ c. (0, Some h.0.value) ∷ rest c) (sym e)))

pub returns-clause-value : goal.returns-clause-value
returns-clause-value g c =
    let i = c.requires.out in let a = c.fetch_or-life.ensures.2 in let b = c.load-seen.ensures.2 in
    let alive : c.fetch_or-life.result / 4294967296 ≡ 4 * c.args.generation + 1 = let f = c.from.ensures in omega arith in
    let h = c.compare_exchange-found.ensures.2.0 c.if-found-seen.false in
    let x = c.exchange.ensures in
    comes_in g.T.Celled.goes_on c.args.chair.now.me c.fetch_or-life.new.seat.me c.load-seen.new.seat.me c.compare_exchange-found.new.seat.me c.exchange.new.seat.me c.args.generation c.fetch_or-life.result c.load-seen.result a.0 h.0 c.exchange.result c.in-Some.value
    i.5 (a.2 c.args.generation alive) a.1 b h.1 h.2 h.3 h.4 x.2 c.in-Some.is x.3 alive (sym c.if-found-seen.false ∙ h.5)
