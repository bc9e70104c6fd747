-- What is true of a queue pair stays so by a post of a send.
use Rattle.std.proofs.Common.{◌≡◌, ◌&&◌, ◌||◌, ◌==◌, ◌++◌, ◌∷◌, [], Bool, true, false, List, length, refl, ap, sym, ◌∙◌, subst}
use Rattle.std.proofs.lemmas.List.{map-append}
use Rattle.uv_num.specs.declared.qp.Service.{Service}
use Rattle.uv_num.specs.Each.{Each}
use Rattle.uv_queue.specs.Queued.{Queued, with_pushed}
use Rattle.uv_wr.specs.Works.{IsAddressed, Sending}
use Rattle.uv_qp.specs.declared.qp.Qp.TheInside.{Inside}
use Rattle.uv_qp.specs.Inside.{seen_pair, Fits}
use Rattle.uv_qp.specs.Ledgers.{Ledgered, with_posted}
use Rattle.uv_qp.specs.Pairs.{mtu_of, sending_id, takes_sends}
use Rattle.uv_qp.specs.Posts.{may_send}
use Rattle.uv_qp.specs.Services.{fits_service, IsServed}
use Rattle.uv_qp.proofs.Growing.{requesting_grows}

takes : (a b c : Bool) → a && b ≡ true → (a || c) ≡ true
takes true b c h = refl
takes false b c h = cc

fits_of : (a b : Bool) → a && b ≡ true → b ≡ true
fits_of true b h = h
fits_of false b h = cc

all_pushed : (service : Service) (ws : List Sending) (w : Sending) → Each (IsServed service) ws → IsServed service w → Each (IsServed service) (ws ++ w ∷ [])
all_pushed service [] w h k = (k, tt)
all_pushed service (x ∷ ws) w h k = (h.0, all_pushed service ws w h.1 k)

fits_with_send : (q : Inside) (w : Sending) → Fits q → may_send (seen_pair q) w ≡ true → IsAddressed w.op → Fits (record q { sends = with_pushed q.sends w; sent = with_posted q.sent w.id })
fits_with_send q w h may to = record {
  pair = record {
    cell = h.pair.cell;
    kept = h.pair.kept;
    requesting = requesting_grows q.requester (mtu_of (seen_pair q)) q.sends.works w h.pair.requesting;
    responding = h.pair.responding;
    holding = h.pair.holding;
    unposted = takes (takes_sends q.state) (fits_service q.service w.op) (length (q.sends.works ++ w ∷ []) == 0) may;
    unbegun = h.pair.unbegun;
    served = all_pushed q.service q.sends.works w h.pair.served (record { fits = fits_of (takes_sends q.state) (fits_service q.service w.op) may; addressed = to });
    shared = h.pair.shared;
    sends_unbroken = h.pair.sends_unbroken;
    receives_unbroken = h.pair.receives_unbroken;
    sends_named = h.pair.sends_named;
    receives_named = h.pair.receives_named;
  };
  sends = ap (λ v. v ++ w.id ∷ []) h.sends ∙ sym (map-append sending_id q.sends.works (w ∷ []));
  receives = h.receives;
}

pub fits_posted : (q : Inside) (w : Sending) (sends : Queued Sending) (sent : Ledgered) → Fits q → may_send (seen_pair q) w ≡ true → IsAddressed w.op
    → sends ≡ with_pushed q.sends w → sent ≡ with_posted q.sent w.id → Fits (record q { sends = sends; sent = sent })
fits_posted q w sends sent h may to pushed posted =
    let P : Queued Sending → Type 0 = λ s. Fits (record q { sends = s; sent = sent }) in
    let Q : Ledgered → Type 0 = λ l. Fits (record q { sends = with_pushed q.sends w; sent = l }) in
    subst P (sym pushed) (subst Q (sym posted) (fits_with_send q w h may to))
