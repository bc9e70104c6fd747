-- What room and actions leave of the regions by key.
use Rattle.std.proofs.Common.{◌≡◌, ◌<◌, ℕ, Bool, true, false, cond, List, Option, None, Some, refl, sym, ◌∙◌, ap, arith, ◌+◌, length, drop, get_or}
use Rattle.std.proofs.lemmas.Cmp.{nat_cmp_total, tied_itself}
use Rattle.std.proofs.lemmas.List.{at_drop_more}
use Rattle.std.specs.FinMap as map
use Rattle.std.specs.Ordering.{nat_cmp, eq_by_cmp, is_eq}
use Rattle.std.specs.Prelude.{is_none, max, option_map}
use Rattle.uv_region.specs.declared.action.Access.{Access}
use Rattle.uv_region.specs.declared.action.Why.{Why}
use Rattle.uv_region.specs.declared.piece.Piece.{Piece}
use Rattle.uv_region.specs.Actions.{PlainAction}
use Rattle.uv_region.specs.Acting.{after_action, spent}
use Rattle.uv_region.specs.Lent.{Lent, ReachedRegion, acting, via, reached_allows, lent_allows, with_room, with_acted, lent_with_room, lent_with_rooms, lent_after, MayAct, known, known_reached, StaysKnown}
use Rattle.uv_region.proofs.Lending.{tied_same}

-- a fact of the value at a key, where that of one key was replaced by one of which the same fact is true
replaced : {X : Type 0} (f : Option ReachedRegion → X) (b : Bool) (v : Option ReachedRegion) (old : Option ReachedRegion) → (b ≡ true → f v ≡ f old) → f (cond b v old) ≡ f old
replaced f true v old same = same refl
replaced f false v old same = refl

-- what is told of the region of a key stays where that of one key was replaced by one of which the same is told
told_again : {X : Type 0} (f : Option ReachedRegion → X) (lent : Lent) (key : ℕ) (now was : ReachedRegion) → map.get lent key ≡ Some was → f (Some now) ≡ f (Some was) → (k : ℕ) → f (map.get (map.insert lent key now) k) ≡ f (map.get lent k)
told_again f lent key now was there same k =
    ap f (map.get-insert nat_cmp_total lent key now k)
    ∙ replaced f (eq_by_cmp nat_cmp k key) (Some now) (map.get lent k) (λ h. same ∙ ap f (sym there) ∙ ap (λ n. f (map.get lent n)) (sym (tied_same k key h)))

room_told : {X : Type 0} (f : Option ReachedRegion → X) (lent : Lent) (key more : ℕ) → ((r : ReachedRegion) → f (Some (record r.0 { spare = max r.0.spare more }, r.1)) ≡ f (Some r)) → (o : Option ReachedRegion) → map.get lent key ≡ o → (k : ℕ) → f (map.get (with_room lent key more o) k) ≡ f (map.get lent k)
room_told f lent key more same None there k = refl
room_told f lent key more same (Some r) there k = told_again f lent key (record r.0 { spare = max r.0.spare more }, r.1) r there (same r) k

acted_told : {X : Type 0} (f : Option ReachedRegion → X) (lent : Lent) (key : ℕ) (a : PlainAction) → ((r : ReachedRegion) → f (Some (spent (after_action r.0 (via r.1 a)), r.1)) ≡ f (Some r)) → (o : Option ReachedRegion) → map.get lent key ≡ o → (k : ℕ) → f (map.get (with_acted lent key a o) k) ≡ f (map.get lent k)
acted_told f lent key a same None there k = refl
acted_told f lent key a same (Some r) there k = told_again f lent key (spent (after_action r.0 (via r.1 a)), r.1) r there (same r) k

pub room_unknown : (lent : Lent) (key more : ℕ) → StaysKnown lent (lent_with_room lent key more)
room_unknown lent key more = record { same = room_told (option_map known_reached) lent key more (λ r. refl) (map.get lent key) refl }

pub stays_itself : (lent : Lent) → StaysKnown lent lent
stays_itself lent = record { same = λ k. refl }

-- room that was taken at a step is nothing that was known before it
pub stays_by_room : (old now new : Lent) (key more : ℕ) → StaysKnown old now → new ≡ lent_with_room now key more → StaysKnown old new
stays_by_room old now new key more stays is = record {
  same = λ k. ap (λ (m : Lent). known m k) is ∙ ((room_unknown now key more).same k ∙ stays.same k);
}

-- room for one piece more
pub rooms_on : (now new : Lent) (pieces : List Piece) (i more : ℕ) (d : Piece) (all : Lent) → i < length pieces → new ≡ lent_with_room now (get_or pieces i d).key more → lent_with_rooms now (drop i pieces) more ≡ all → lent_with_rooms new (drop (i + 1) pieces) more ≡ all
rooms_on now new pieces i more d all lt is before =
    ap (λ (m : Lent). lent_with_rooms m (drop (i + 1) pieces) more) is
    ∙ (sym (at_drop_more (λ ps. lent_with_rooms now ps more) pieces i d lt) ∙ before)

pub room_untested : (lent : Lent) (key more : ℕ) (kind : Access) (piece : Piece) (domain : ℕ) → lent_allows (lent_with_room lent key more) kind piece domain ≡ lent_allows lent kind piece domain
room_untested lent key more kind piece domain = room_told (λ o. reached_allows o kind piece domain) lent key more (λ r. refl) (map.get lent key) refl piece.key

pub action_untested : (lent : Lent) (key : ℕ) (a : PlainAction) (kind : Access) (piece : Piece) (domain : ℕ) → lent_allows (lent_after lent key a) kind piece domain ≡ lent_allows lent kind piece domain
action_untested lent key a kind piece domain = acted_told (λ o. reached_allows o kind piece domain) lent key a (λ r. refl) (map.get lent key) refl piece.key

pub none_is : (o : Option Why) → is_none o ≡ true → o ≡ None
none_is None h = refl
none_is (Some w) h = cc

ready_for : (lent : Lent) (kind : Access) (piece : Piece) (bytes : List ℕ) (qp domain : ℕ) (o : Option ReachedRegion) → reached_allows o kind piece domain ≡ true → MayAct (with_room lent piece.key 1 o) piece.key (acting kind piece bytes qp domain)
ready_for lent kind piece bytes qp domain None h = cc
ready_for lent kind piece bytes qp domain (Some r) h =
    let v : ReachedRegion = (record r.0 { spare = max r.0.spare 1 }, r.1) in
    record {
      reached = v;
      there = map.get-insert nat_cmp_total lent piece.key v piece.key ∙ ap (λ b. cond b (Some v) (map.get lent piece.key)) (ap is_eq (tied_itself nat_cmp_total piece.key));
      allowed = none_is _ h;
      room = omega arith;
    }

pub ready_with_room : (lent : Lent) (kind : Access) (piece : Piece) (bytes : List ℕ) (qp domain : ℕ) → lent_allows lent kind piece domain ≡ true → MayAct (lent_with_room lent piece.key 1) piece.key (acting kind piece bytes qp domain)
ready_with_room lent kind piece bytes qp domain h = ready_for lent kind piece bytes qp domain (map.get lent piece.key) h
