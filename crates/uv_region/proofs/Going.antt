-- Lent regions go on by all that is done to them.
use Rattle.std.proofs.Common.{◌≡◌, ℕ, Bool, true, false, cond, List, [], ◌∷◌, ◌++◌, Option, None, Some, refl, sym, ap, subst, ◌∙◌, append_assoc, append-nil}
use Rattle.std.proofs.lemmas.Cmp.{nat_cmp_total}
use Rattle.std.specs.FinMap as map
use Rattle.std.specs.Ordering.{nat_cmp, eq_by_cmp}
use Rattle.std.specs.Prelude.{max, option_map, unwrap_or}
use Rattle.uv_num.specs.Each.{Each}
use Rattle.uv_num.proofs.EachLaws.{Each-append}
use Rattle.uv_region.specs.declared.action.Access.{Access}
use Rattle.uv_region.specs.declared.action.Window.{Window}
use Rattle.uv_region.specs.declared.piece.Piece.{Piece}
use Rattle.uv_region.specs.Actions.{PlainAction, is_read}
use Rattle.uv_region.specs.Acting.{after_action, journalled, spent}
use Rattle.uv_region.specs.GoingOn.{GoesOnAt, IsActionOf, LentGoesOn, ReachedGoesOn}
use Rattle.uv_region.specs.Journals.{journal_of}
use Rattle.uv_region.specs.Lent.{Lent, ReachedRegion, StaysKnown, known_reached, lent_after, lent_with_room, lent_with_rooms, via, with_acted, with_room}
use Rattle.uv_region.specs.Registered.{KnownRegion}
use Rattle.uv_region.specs.Replay.{standing}
use Rattle.uv_region.specs.Several.{PlainWrite, lent_read, lent_written, piece_reading, piece_writing}
use Rattle.uv_region.proofs.Journaling.{acted_on, goes_on_refl, goes_on_trans}
use Rattle.uv_region.proofs.Lending.{tied_same}

reached_itself : (qp domain : ℕ) (r : ReachedRegion) → ReachedGoesOn qp domain r r
reached_itself qp domain r = record {
  window = refl;
  journal = goes_on_refl (journal_of r.0);
  more = [];
  actions = sym (append-nil r.0.actions);
  acted = tt;
}

reached_in_turn : (qp domain : ℕ) (r s t : ReachedRegion) → ReachedGoesOn qp domain r s → ReachedGoesOn qp domain s t → ReachedGoesOn qp domain r t
reached_in_turn qp domain r s t h k =
    let P : Option Window → Type 0 = λ w. Each (IsActionOf qp domain w) k.more in
    record {
      window = k.window ∙ h.window;
      journal = goes_on_trans (journal_of r.0) (journal_of s.0) (journal_of t.0) h.journal k.journal;
      more = h.more ++ k.more;
      actions = k.actions ∙ ap (λ xs. xs ++ k.more) h.actions ∙ append_assoc r.0.actions h.more k.more;
      acted = Each-append (IsActionOf qp domain r.1) h.more k.more h.acted (subst P h.window k.acted);
    }

at_itself : (qp domain : ℕ) (o : Option ReachedRegion) → GoesOnAt qp domain o o
at_itself qp domain None = tt
at_itself qp domain (Some r) = reached_itself qp domain r

at_in_turn : (qp domain : ℕ) (o m n : Option ReachedRegion) → GoesOnAt qp domain o m → GoesOnAt qp domain m n → GoesOnAt qp domain o n
at_in_turn qp domain None None n h k = k
at_in_turn qp domain None (Some s) n h k = absurd h
at_in_turn qp domain (Some r) None n h k = absurd h
at_in_turn qp domain (Some r) (Some s) None h k = absurd k
at_in_turn qp domain (Some r) (Some s) (Some t) h k = reached_in_turn qp domain r s t h k

pub lent_itself : (qp domain : ℕ) (lent : Lent) → LentGoesOn qp domain lent lent
lent_itself qp domain lent = record { each = λ key. at_itself qp domain (map.get lent key) }

pub lent_in_turn : (qp domain : ℕ) (l m n : Lent) → LentGoesOn qp domain l m → LentGoesOn qp domain m n → LentGoesOn qp domain l n
lent_in_turn qp domain l m n h k = record {
  each = λ key. at_in_turn qp domain (map.get l key) (map.get m key) (map.get n key) (h.each key) (k.each key);
}

-- the region of one key was replaced by one that goes on from it

by_tie : (qp domain : ℕ) (b : Bool) (o : Option ReachedRegion) (was now : ReachedRegion) → (b ≡ true → o ≡ Some was) → ReachedGoesOn qp domain was now → GoesOnAt qp domain o (cond b (Some now) o)
by_tie qp domain true o was now there h =
    let P : Option ReachedRegion → Type 0 = λ x. GoesOnAt qp domain x (Some now) in
    subst P (sym (there refl)) h
by_tie qp domain false o was now there h = at_itself qp domain o

replaced_on : (qp domain : ℕ) (lent : Lent) (key : ℕ) (was now : ReachedRegion) → map.get lent key ≡ Some was → ReachedGoesOn qp domain was now → LentGoesOn qp domain lent (map.insert lent key now)
replaced_on qp domain lent key was now there h = record {
  each = λ k.
      let P : Option ReachedRegion → Type 0 = λ x. GoesOnAt qp domain (map.get lent k) x in
      subst P (sym (map.get-insert nat_cmp_total lent key now k))
      (by_tie qp domain (eq_by_cmp nat_cmp k key) (map.get lent k) was now (λ e. ap (λ n. map.get lent n) (tied_same k key e) ∙ there) h);
}

-- room

room_on : (qp domain : ℕ) (lent : Lent) (key more : ℕ) (o : Option ReachedRegion) → map.get lent key ≡ o → LentGoesOn qp domain lent (with_room lent key more o)
room_on qp domain lent key more None there = lent_itself qp domain lent
room_on qp domain lent key more (Some r) there =
    replaced_on qp domain lent key r (record r.0 { spare = max r.0.spare more }, r.1) there (record {
      window = refl;
      journal = goes_on_refl (journal_of r.0);
      more = [];
      actions = sym (append-nil r.0.actions);
      acted = tt;
    })

pub rooms_on_all : (qp domain : ℕ) (lent : Lent) (pieces : List Piece) (more : ℕ) → LentGoesOn qp domain lent (lent_with_rooms lent pieces more)
rooms_on_all qp domain lent [] more = lent_itself qp domain lent
rooms_on_all qp domain lent (p ∷ ps) more =
    lent_in_turn qp domain lent (lent_with_room lent p.key more) (lent_with_rooms (lent_with_room lent p.key more) ps more)
    (room_on qp domain lent p.key more (map.get lent p.key) refl)
    (rooms_on_all qp domain (lent_with_room lent p.key more) ps more)

-- actions

held_of : (b : Bool) (qp domain : ℕ) (window : Option Window) (a : PlainAction) (bytes : List ℕ) → IsActionOf qp domain window a → IsActionOf qp domain window (cond b (record a { bytes = bytes }) a)
held_of true qp domain window a bytes h = record { actor = h.actor; right = h.right; through = h.through }
held_of false qp domain window a bytes h = h

acted_at : (qp domain : ℕ) (lent : Lent) (key : ℕ) (a : PlainAction) (o : Option ReachedRegion) → map.get lent key ≡ o → a.qp ≡ qp → a.domain ≡ domain → LentGoesOn qp domain lent (with_acted lent key a o)
acted_at qp domain lent key a None there by for = lent_itself qp domain lent
acted_at qp domain lent key a (Some r) there by for =
    let act : PlainAction = via r.1 a in
    replaced_on qp domain lent key r (spent (after_action r.0 (via r.1 a)), r.1) there (record {
      window = refl;
      journal = acted_on r.0 (via r.1 a);
      more = journalled (via r.1 a) r.0.bytes ∷ [];
      actions = refl;
      acted = (held_of (is_read a.kind) qp domain r.1 (via r.1 a) (standing (via r.1 a) r.0.bytes) (record { actor = by; right = for; through = refl }), tt);
    })

pub acted_on_lent : (qp domain : ℕ) (lent : Lent) (key : ℕ) (a : PlainAction) → a.qp ≡ qp → a.domain ≡ domain → LentGoesOn qp domain lent (lent_after lent key a)
acted_on_lent qp domain lent key a by for = acted_at qp domain lent key a (map.get lent key) refl by for

pub read_on_lent : (qp domain : ℕ) (lent : Lent) (kind : Access) (pieces : List Piece) → LentGoesOn qp domain lent (lent_read lent kind qp domain pieces)
read_on_lent qp domain lent kind [] = lent_itself qp domain lent
read_on_lent qp domain lent kind (p ∷ ps) =
    lent_in_turn qp domain lent (lent_after lent p.key (piece_reading kind qp domain p)) (lent_read (lent_after lent p.key (piece_reading kind qp domain p)) kind qp domain ps)
    (acted_on_lent qp domain lent p.key (piece_reading kind qp domain p) refl refl)
    (read_on_lent qp domain (lent_after lent p.key (piece_reading kind qp domain p)) kind ps)

pub written_on_lent : (qp domain : ℕ) (lent : Lent) (kind : Access) (ws : List PlainWrite) → LentGoesOn qp domain lent (lent_written lent kind qp domain ws)
written_on_lent qp domain lent kind [] = lent_itself qp domain lent
written_on_lent qp domain lent kind (w ∷ ws) =
    lent_in_turn qp domain lent (lent_after lent w.piece.key (piece_writing kind qp domain w)) (lent_written (lent_after lent w.piece.key (piece_writing kind qp domain w)) kind qp domain ws)
    (acted_on_lent qp domain lent w.piece.key (piece_writing kind qp domain w) refl refl)
    (written_on_lent qp domain (lent_after lent w.piece.key (piece_writing kind qp domain w)) kind ws)

-- where nothing that counts has changed

known_at : (qp domain : ℕ) (o n : Option ReachedRegion) → option_map known_reached n ≡ option_map known_reached o → GoesOnAt qp domain o n
known_at qp domain None None h = tt
known_at qp domain None (Some n) h = cc
known_at qp domain (Some o) None h = cc
known_at qp domain (Some o) (Some n) h =
    let e : known_reached n ≡ known_reached o = ap (λ (x : Option (KnownRegion × Option Window)). unwrap_or x (known_reached o)) h in
    let same : n.0.actions ≡ o.0.actions ++ [] = ap (λ (x : KnownRegion × Option Window). x.0.actions) e ∙ sym (append-nil o.0.actions) in
    record {
      window = ap (λ (x : KnownRegion × Option Window). x.1) e;
      journal = record {
        object = ap (λ (x : KnownRegion × Option Window). x.0.object) e;
        domain = ap (λ (x : KnownRegion × Option Window). x.0.domain) e;
        length = ap (λ (x : KnownRegion × Option Window). x.0.length) e;
        rights = ap (λ (x : KnownRegion × Option Window). x.0.rights) e;
        actions = record { rest = []; goes_on = same };
      };
      more = [];
      actions = same;
      acted = tt;
    }

pub known_on : (qp domain : ℕ) (old new : Lent) → StaysKnown old new → LentGoesOn qp domain old new
known_on qp domain old new h = record { each = λ key. known_at qp domain (map.get old key) (map.get new key) (h.same key) }
