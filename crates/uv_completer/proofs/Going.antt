-- The queue pair and the regions go on by all that responses make.
use Rattle.std.proofs.Common.{◌≡◌, ◌+◌, ℕ, zero, suc, Bool, true, false, List, [], ◌∷◌, ◌++◌, Option, None, Some, refl, sym, ◌∙◌, ap, subst, length}
use Rattle.std.specs.Option.{option_map, option_to_list}
use Rattle.std.specs.Prelude.{if◌then◌else◌}
use Rattle.uv_qp.specs.declared.state.Requester.{Requester}
use Rattle.uv_qp.specs.declared.turns.TurnWord.{TurnWord}
use Rattle.uv_qp.specs.declared.turns.TurnWord.TheVariants.{Response}
use Rattle.uv_qp.specs.GoingOn.{TurnGoesOn}
use Rattle.uv_qp.specs.Laws.{TurnsGoOn, TurnsGoOnInTurn}
use Rattle.uv_qp.specs.Pairs.{Paired, next_send}
use Rattle.uv_qp.specs.Pieces.{pieces}
use Rattle.uv_qp.specs.Writers.{broken, send_completed, send_completion, send_ended, with_requester}
use Rattle.uv_region.specs.declared.action.Access.TheVariants.{LocalWrite}
use Rattle.uv_region.specs.declared.piece.Piece.{Piece}
use Rattle.uv_region.specs.GoingOn.{LentGoesOn}
use Rattle.uv_region.specs.Laws.{LentRegionsGoOn}
use Rattle.uv_region.specs.Lent.{Lent}
use Rattle.uv_region.specs.Several.{with_rooms_for, writes_of}
use Rattle.uv_wr.specs.declared.completion.Completion.{Completion}
use Rattle.uv_wr.specs.declared.completion.Status.{Status}
use Rattle.uv_wr.specs.declared.completion.Status.TheVariants.{LocProtErr, Success}
use Rattle.uv_wr.specs.Works.{Sending}
use Rattle.uv_completer.specs.declared.judging.Upshot.{Upshot}
use Rattle.uv_completer.specs.declared.judging.Upshot.TheVariants.{Ignored, Moves, Breaks, Fills}
use Rattle.uv_completer.specs.Replies.{ReplyMade, broke_at, ended_by_response, fill_refused, filled, lent_by_upshot, lent_filled, may_fill, went_on, parts_at, reply_made_by, succeeded, successes}
use Rattle.uv_completer.specs.Upshots.{una_at}
use Rattle.uv_completer.proofs.Succeeding.{next_completion, taken_next}

-- the queue pair

abbrev MadeOn : Paired → ReplyMade → Type 0
MadeOn p m = TurnGoesOn p m.completions m.pair

itself : TurnsGoOn → (p : Paired) → TurnGoesOn p [] p
itself law p = (law p).requester p.requester

ends_by : TurnsGoOn → (p : Paired) (st : Status) (o : Option Sending) → next_send p ≡ o → TurnGoesOn p (option_to_list (option_map (send_completion p.names st) o)) (send_ended p st o)
ends_by law p st None is = itself law p
ends_by law p st (Some w) is =
    let P : Option Sending → Type 0 = λ x. TurnGoesOn p (send_completion p.names st w ∷ []) (send_ended p st x) in
    subst P is ((law p).send st w is)

ends : TurnsGoOn → (p : Paired) (st : Status) → TurnGoesOn p (option_to_list (option_map (send_completion p.names st) (next_send p))) (send_completed p st)
ends law p st = ends_by law p st (next_send p) refl

succeeds : TurnsGoOn → TurnsGoOnInTurn → (p : Paired) (n : ℕ) → TurnGoesOn p (successes p n) (succeeded p n)
succeeds law chain p zero = itself law p
succeeds law chain p (suc n) =
    let more : List Completion = option_to_list (option_map (send_completion (succeeded p n).names Success) (next_send (succeeded p n))) in
    let both : TurnGoesOn p (successes p n ++ more) (succeeded p (suc n)) =
    chain p (succeeded p n) (succeeded p (suc n)) (successes p n) more (succeeds law chain p n) (ends law (succeeded p n) Success) in
    let is : successes p n ++ more ≡ successes p (suc n) =
    ap (λ (o : Option Completion). successes p n ++ option_to_list o) (next_completion p n Success)
    ∙ sym (taken_next (send_completion p.names Success) p.sends.works n) in
    let P : List Completion → Type 0 = λ cs. TurnGoesOn p cs (succeeded p (suc n)) in
    subst P is both

moves_on : TurnsGoOn → TurnsGoOnInTurn → (word : TurnWord) (works : ℕ) (r : Requester) (p : Paired) → MadeOn p (went_on word works r p)
moves_on law chain word works r p =
    chain p (with_requester p r) (succeeded (with_requester p r) works) [] (successes p works) ((law p).requester r) (succeeds law chain (with_requester p r) works)

breaks_on : TurnsGoOn → TurnsGoOnInTurn → (word : TurnWord) (works : ℕ) (r : Requester) (st : Status) (p : Paired) → MadeOn p (broke_at word works r st p)
breaks_on law chain word works r st p =
    let q : Paired = succeeded (with_requester p r) works in
    let more : List Completion = option_to_list (option_map (send_completion q.names st) (next_send q)) in
    let last : TurnGoesOn q more (send_completed (broken q) st) =
    chain q (broken q) (send_completed (broken q) st) [] more (law q).broken (ends law (broken q) st) in
    let both : TurnGoesOn p (successes p works ++ more) (send_completed (broken q) st) =
    chain p q (send_completed (broken q) st) (successes p works) more (moves_on law chain word works r p) last in
    let P : List Completion → Type 0 = λ cs. TurnGoesOn p (successes p works ++ cs) (send_completed (broken q) st) in
    subst P (ap (λ (o : Option Completion). option_to_list o) (next_completion (with_requester p r) works st)) both

either : (b : Bool) (p : Paired) (m n : ReplyMade) → MadeOn p m → MadeOn p n → MadeOn p (if b then m else n)
either true p m n h k = h
either false p m n h k = k

pub made_on : TurnsGoOn → TurnsGoOnInTurn → (u : Upshot) (bytes : List ℕ) (p : Paired) (lent : Lent) → MadeOn p (reply_made_by u bytes p lent)
made_on law chain Ignored bytes p lent = itself law p
made_on law chain (Moves word works r) bytes p lent = moves_on law chain word works r p
made_on law chain (Breaks word works r st) bytes p lent = breaks_on law chain word works r st p
made_on law chain (Fills at older from last) bytes p lent =
    either (may_fill p lent (pieces (parts_at p older) from (length bytes))) p (filled p at older last) (fill_refused p at older)
    (moves_on law chain Response (ended_by_response older last) (una_at p.requester (at + 1)) p)
    (breaks_on law chain Response older (una_at p.requester at) LocProtErr p)

-- the regions

abbrev LentOn : Paired → Lent → Lent → Type 0
LentOn p lent new = LentGoesOn p.names.object p.names.domain lent new

either_lent : (b : Bool) (p : Paired) (lent m n : Lent) → LentOn p lent m → LentOn p lent n → LentOn p lent (if b then m else n)
either_lent true p lent m n h k = h
either_lent false p lent m n h k = k

fills_on : LentRegionsGoOn → (p : Paired) (lent : Lent) (found : List Piece) (bytes : List ℕ) → LentOn p lent (lent_filled p lent found bytes)
fills_on law p lent found bytes =
    (law p.names.object p.names.domain).in_turn lent (with_rooms_for lent found) (lent_filled p lent found bytes)
    ((law p.names.object p.names.domain).rooms lent found (length found))
    ((law p.names.object p.names.domain).writes (with_rooms_for lent found) LocalWrite (writes_of found bytes))

pub lent_on : LentRegionsGoOn → (u : Upshot) (bytes : List ℕ) (p : Paired) (lent : Lent) → LentOn p lent (lent_by_upshot u bytes p lent)
lent_on law Ignored bytes p lent = (law p.names.object p.names.domain).itself lent
lent_on law (Moves word works r) bytes p lent = (law p.names.object p.names.domain).itself lent
lent_on law (Breaks word works r st) bytes p lent = (law p.names.object p.names.domain).itself lent
lent_on law (Fills at older from last) bytes p lent =
    either_lent (may_fill p lent (pieces (parts_at p older) from (length bytes))) p lent (lent_filled p lent (pieces (parts_at p older) from (length bytes)) bytes) lent
    (fills_on law p lent (pieces (parts_at p older) from (length bytes)) bytes) ((law p.names.object p.names.domain).itself lent)
