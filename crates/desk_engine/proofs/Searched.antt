-- The reading pass against the search: how many are dropped, busy, the place and the job behind it, of the list definitions. Assumes nothing.
use Prim.Native.Nat.{ℕ, suc, ◌+◌, ◌-◌, ◌<◌, ◌≤◌}
use mathlib.Core.Path.{◌≡◌, refl, sym, subst, ◌∙◌}
use mathlib.Core.Bool.{Bool, true, false, ◌||◌}
use mathlib.Core.List.{List, [], ◌∷◌}
use native.Mathlib.Omega.{arith}
use lib.Dec.{leb, ltb, eqb}
use lib.ListN.{length, take, drop}
use borrow.Author.Tests.{lt-ltb, le-ltb, lt-leb, leb-true, leb-false, ne_eqb}
use Rattle.rules.specs.Walk.{pick}
use Rattle.desk.specs.declared.Job.{Job}
use Rattle.desk_records.specs.Sums.{most32}
use Rattle.desk_reading.specs.declared.searching.Searching.{Searching}
use Rattle.desk.specs.Places.{early, start_at, room}
use Rattle.desk.specs.Request.{kept, busy, find_from, find, Place, At, Nowhere}
use Rattle.desk.proofs.Chain.{Chain}
use Rattle.desk.proofs.Spot.{early-late}
use Rattle.desk_records.specs.Folds.{fold}
use Rattle.desk.proofs.Rooms.{start-next, early-none}
use Rattle.desk_reading.specs.declared.best.Best.{Best}
use Rattle.desk_reading.specs.Best.{no_best, best_with, sought_at}
use Rattle.desk_reading.specs.Reading.{found_by, behind_at, behind_by, search_step}
use Rattle.desk_engine.proofs.Explained.{best_from}
use Rattle.desk_engine.proofs.Counts.{sum_is}
use Rattle.desk_engine.proofs.Dropped.{gone_by, gone-none}
use Rattle.desk_engine.proofs.Fitted.{behind_of}
use Rattle.desk.specs.Table.{ends}
use Rattle.desk_reading.specs.declared.searching.Stage.{Stage}
use Rattle.desk_reading.specs.declared.searching.Stage.TheVariants.{Looking, Found, Late}

-- where the search has ended
abbrev stage_at : Bool → ℕ → Stage
stage_at true h = Found h
stage_at false h = Late h

found_is : (f : Bool) (h : ℕ) → found_by (stage_at f h) ≡ f
found_is true h = refl
found_is false h = refl

behind_stays : (f : Bool) (h : ℕ) → behind_at (stage_at f h) ≡ h
behind_stays true h = refl
behind_stays false h = refl

module _ (t c d : ℕ) where
  -- the search goes on, and has ended
  abbrev on : ℕ → Bool → ℕ → ℕ → Best → Searching
  on g b p s m = record {
    time = t;
    budget = c;
    deadline = d;
    gone = g;
    busy = b;
    place = p;
    start = s;
    stage = Looking;
    best = m;
  }

  abbrev off : ℕ → Bool → Bool → ℕ → ℕ → ℕ → Best → Searching
  off g b f p s h m = record {
    time = t;
    budget = c;
    deadline = d;
    gone = g;
    busy = b;
    place = p;
    start = s;
    stage = stage_at f h;
    best = m;
  }

  -- only the job that binds is still sought
  off_stays : (g : ℕ) (b f : Bool) (p s h : ℕ) (m : Best) (l : List Job) → fold search_step (off g b f p s h m) l ≡ off g b f p s h (fold sought_at m l)
  unfolding fold
  off_stays g b f p s h m [] = refl
  off_stays g b true p s h m (j ∷ l) = off_stays g b true p s h (sought_at m j) l
  off_stays g b false p s h m (j ∷ l) = off_stays g b false p s h (sought_at m j) l

  abbrev spot_of : Searching → Place
  spot_of e = pick (found_by e.stage || leb (e.start + c) d) (At e.place e.start) Nowhere

  abbrev Asks : Searching → Type 0
  Asks e = (e.time ≡ t) × (e.budget ≡ c) × (e.deadline ≡ d)

  -- ---- among the jobs left, on from place p and time s

  -- busy, of the first job left
  abbrev busy_from : ℕ → Bool → List Job → Bool
  busy_from p b [] = b
  busy_from p b (j ∷ ks) = pick (eqb p 0) (ltb j.start t) b

  busy_stays : (p : ℕ) (b : Bool) (ks : List Job) → busy_from (p + 1) b ks ≡ b
  busy_stays p b [] = refl
  busy_stays p b (j ∷ ks) = rw (ne_eqb (p + 1) 0 (omega arith))

  -- where no place has room: it has come to place l, and keeps the roomiest
  pub record Last (p s : ℕ) (m : Best) (ks : List Job) (e : Searching) : Type 0 where
    pub place_is : e.place ≡ p + early d ks
    pub start_is : e.start ≡ start_at s ks (early d ks)
    pub best_is : e.best ≡ best_from d m p s ks

  record Sought (g : ℕ) (b : Bool) (p s : ℕ) (m : Best) (ks : List Job) (e : Searching) : Type 0 where
    pub asks : Asks e
    pub gone_is : e.gone ≡ g
    pub busy_is : e.busy ≡ busy_from p b ks
    pub spot_is : spot_of e ≡ find_from p s c d (take (early d ks) ks)
    pub from : p ≤ e.place
    pub behind_is : behind_by e ≡ behind_of (drop (e.place - p) ks)
    pub last : find_from p s c d (take (early d ks) ks) ≡ Nowhere → Last p s m ks e

  -- none of ks ends by t
  abbrev Lasting : List Job → Type 0
  Lasting [] = Unit {0}
  Lasting (j ∷ ks) = (t < ends j) × Lasting ks

  lasting_of : (e : ℕ) (ks : List Job) → t < e → Chain e ks → Lasting ks
  lasting_of e [] h o = tt
  lasting_of e (j ∷ ks) h o =
      let late : t < ends j = omega (arith, h, o.0) in
      (late, lasting_of (ends j) ks late o.2)

  -- the ways on from a job j left
  module _ (g : ℕ) (b : Bool) (p s : ℕ) (m : Best) (j : Job) (last : t < ends j) where
    abbrev b₂ : Bool
    b₂ = pick (eqb p 0) (ltb j.start t) b

    abbrev past_best : Best
    past_best = sought_at (best_with m p (room s d j) (ltb j.flex (d - j.start))) j

    seek_late : leb j.start d ≡ false → search_step (on g b p s m) j ≡ off g b₂ false p s (j.flex + j.start) (sought_at m j)
    seek_late e = rw (lt-leb (ends j) t last, lt-ltb d j.start (leb-false _ _ e))

    seek_found : leb j.start d ≡ true → leb c (room s d j) ≡ true → search_step (on g b p s m) j ≡ off g b₂ true p s (j.flex + j.start) (sought_at m j)
    seek_found e f = rw (lt-leb (ends j) t last, le-ltb d j.start (leb-true _ _ e), le-ltb (room s d j) c (leb-true c _ f))

    seek_past : leb j.start d ≡ true → leb c (room s d j) ≡ false → p + 1 ≤ most32 → ends j ≤ most32 → search_step (on g b p s m) j ≡ on g b₂ (p + 1) (ends j) past_best
    seek_past e f hp hj = rw (lt-leb (ends j) t last, le-ltb d j.start (leb-true _ _ e), lt-ltb (room s d j) c (leb-false c _ f), sum_is p 1 hp, sum_is j.start j.budget hj)

  none_off : (p : ℕ) → p - p ≡ 0
  none_off p = omega arith

  one_off : (p q : ℕ) → p + 1 ≤ q → q - p ≡ suc (q - (p + 1))
  one_off p q h = omega (arith, h)

  -- the place is the one before j
  ended : (g : ℕ) (b f : Bool) (p s : ℕ) (m : Best) (j : Job) (ks : List Job) → pick (f || leb (s + c) d) (At p s) Nowhere ≡ find_from p s c d (take (early d (j ∷ ks)) (j ∷ ks))
      → (find_from p s c d (take (early d (j ∷ ks)) (j ∷ ks)) ≡ Nowhere → leb j.start d ≡ false) → (e : ℕ) → Chain e (j ∷ ks)
      → Sought g b p s m (j ∷ ks) (fold search_step (off g (busy_from p b (j ∷ ks)) f p s (j.flex + j.start) (sought_at m j)) ks)
  ended g b f p s m j ks spot high e o = subst (Sought g b p s m (j ∷ ks)) (sym (off_stays g (busy_from p b (j ∷ ks)) f p s (j.flex + j.start) (sought_at m j) ks)) (record {
    asks = (refl, refl, refl);
    gone_is = refl;
    busy_is = refl;
    spot_is = rw (found_is f (j.flex + j.start)) spot;
    from = omega arith;
    behind_is = rw (behind_stays f (j.flex + j.start), none_off p);
    last = λ q. at_last (high q);
  }) where
    at_last : leb j.start d ≡ false → Last p s m (j ∷ ks) (off g (busy_from p b (j ∷ ks)) f p s (j.flex + j.start) (fold sought_at (sought_at m j) ks))
    at_last h =
        let z : early d (j ∷ ks) ≡ 0 = early-none d e j ks o h in
        record { place_is = omega (arith, z); start_is = rw z; best_is = rw h }

  sought : (ks : List Job) (g : ℕ) (b : Bool) (p s : ℕ) (m : Best) (e : ℕ) → Chain e ks → Lasting ks → p + length ks ≤ most32 → Sought g b p s m ks (fold search_step (on g b p s m) ks)
  unfolding fold
  sought [] g b p s m e o w h = record {
    asks = (refl, refl, refl);
    gone_is = refl;
    busy_is = refl;
    spot_is = refl;
    from = omega arith;
    behind_is = rw (none_off p);
    last = λ q. record { place_is = omega arith; start_is = refl; best_is = refl };
  }
  sought (j ∷ ks) g b p s m e o w h = by_early (leb j.start d) refl (sought ks g (busy_from p b (j ∷ ks)) (p + 1) (ends j) (past_best g b p s m j w.0) (ends j) o.2 w.1 (omega (arith, h))) where
    m₂ : Best
    m₂ = past_best g b p s m j w.0

    by_room : (v : Bool) → leb c (room s d j) ≡ v → leb j.start d ≡ true
        → Sought g (busy_from p b (j ∷ ks)) (p + 1) (ends j) m₂ ks (fold search_step (on g (busy_from p b (j ∷ ks)) (p + 1) (ends j) m₂) ks)
        → Sought g b p s m (j ∷ ks) (fold search_step (search_step (on g b p s m) j) ks)
    by_room true f i more =
        subst (λ (z : Searching). Sought g b p s m (j ∷ ks) (fold search_step z ks)) (sym (seek_found g b p s m j w.0 i f))
        (ended g b true p s m j ks (rw (i, f)) (λ q. absurd (let q₂ : At p s ≡ Nowhere = rw (i, f) at q in let y : ◌≡◌ {A = ℕ} 0 1 = cc in omega arith)) e o)
    by_room false f i more =
        subst (λ (z : Searching). Sought g b p s m (j ∷ ks) (fold search_step z ks)) (sym (seek_past g b p s m j w.0 i f (omega (arith, h)) (omega (arith, o.1.in_time, o.1.low))))
        (record {
          asks = more.asks;
          gone_is = more.gone_is;
          busy_is = more.busy_is ∙ busy_stays p (busy_from p b (j ∷ ks)) ks;
          spot_is = rw (i, f) more.spot_is;
          from = omega (arith, more.from);
          behind_is = rw (one_off p _ more.from) more.behind_is;
          last = λ q. next (more.last (rw (i, f) at q));
        }) where
          next : {z : Searching} → Last (p + 1) (ends j) m₂ ks z → Last p s m (j ∷ ks) z
          next l = record {
            place_is = rw i (omega (arith, l.place_is));
            start_is = rw (i, start-next s j ks (early d ks)) l.start_is;
            best_is = rw i l.best_is;
          }

    by_early : (v : Bool) → leb j.start d ≡ v
        → Sought g (busy_from p b (j ∷ ks)) (p + 1) (ends j) m₂ ks (fold search_step (on g (busy_from p b (j ∷ ks)) (p + 1) (ends j) m₂) ks)
        → Sought g b p s m (j ∷ ks) (fold search_step (search_step (on g b p s m) j) ks)
    by_early true i more = by_room (leb c (room s d j)) refl i more
    by_early false i more =
        let late : d < ends j = omega (arith, leb-false j.start d i) in
        subst (λ (z : Searching). Sought g b p s m (j ∷ ks) (fold search_step z ks)) (sym (seek_late g b p s m j w.0 i))
        (ended g b false p s m j ks (rw (i, early-late d (ends j) ks late o.2)) (λ q. i) e o)

  -- ---- the jobs that end by t come first

  pub record Searched (g : ℕ) (js : List Job) (e : Searching) : Type 0 where
    pub asks : (e.time ≡ t) × (e.budget ≡ c) × (e.deadline ≡ d)
    pub gone_is : e.gone ≡ g + gone_by t js
    pub busy_is : e.busy ≡ busy t (kept t js)
    pub spot_is : spot_of e ≡ find t c d (kept t js)
    pub behind_is : behind_by e ≡ behind_of (drop e.place (kept t js))
    pub last : find t c d (kept t js) ≡ Nowhere → Last 0 t no_best (kept t js) e

  seek_gone : (g : ℕ) (j : Job) → leb (ends j) t ≡ true → g + 1 ≤ most32 → search_step (on g false 0 t no_best) j ≡ on (g + 1) false 0 t no_best
  seek_gone g j e h = rw (e, sum_is g 1 h)

  from_front : (p : ℕ) → p - 0 ≡ p
  from_front p = omega arith

  all_left : (g : ℕ) (j : Job) (js : List Job) (z : Searching) → leb (ends j) t ≡ false → (gone_by t js ≡ 0) × (kept t js ≡ js) → Sought g false 0 t no_best (j ∷ js) z → Searched g (j ∷ js) z
  all_left g j js z i all so = record {
    asks = so.asks;
    gone_is = rw (i, all.0) (omega (arith, so.gone_is));
    busy_is = rw i so.busy_is;
    spot_is = rw (i, all.1) so.spot_is;
    behind_is = rw (i, all.1) (rw (from_front z.place) at so.behind_is);
    last = rw (i, all.1) so.last;
  }

  pub searched : (js : List Job) (g e : ℕ) → Chain e js → g + length js ≤ most32 → Searched g js (fold search_step (on g false 0 t no_best) js)
  unfolding fold
  searched [] g e o h = record { asks = (refl, refl, refl); gone_is = omega arith; busy_is = refl; spot_is = refl; behind_is = refl; last = λ q. record { place_is = omega arith; start_is = refl; best_is = refl } }
  searched (j ∷ js) g e o h = by_end (leb (ends j) t) refl (searched js (g + 1) (ends j) o.2 (omega (arith, h))) where
    by_end : (v : Bool) → leb (ends j) t ≡ v → Searched (g + 1) js (fold search_step (on (g + 1) false 0 t no_best) js)
        → Searched g (j ∷ js) (fold search_step (search_step (on g false 0 t no_best) j) js)
    by_end true i more =
        subst (λ (z : Searching). Searched g (j ∷ js) (fold search_step z js)) (sym (seek_gone g j i (omega (arith, h))))
        (record {
          asks = more.asks;
          gone_is = rw i (omega (arith, more.gone_is));
          busy_is = rw i more.busy_is;
          spot_is = rw i more.spot_is;
          behind_is = rw i more.behind_is;
          last = rw i more.last;
        })
    by_end false i more =
        let last : t < ends j = leb-false _ _ i in
        let all = gone-none t (ends j) js last o.2 in
        all_left g j js _ i all (sought (j ∷ js) g false 0 t no_best e o (last, lasting_of (ends j) js last o.2) (omega (arith, h)))
