-- The lent calls are the desk's own: answer, record and table are those of `open_of` and of `request_of`. Assumes nothing.
use Prim.Native.Nat.{ℕ, zero, suc, ◌+◌, ◌-◌, ◌<◌, ◌≤◌}
use mathlib.Core.Path.{◌≡◌, refl, sym, ◌∙◌, subst}
use mathlib.Core.Bool.{Bool, true, false, not}
use mathlib.Core.List.{List, [], ◌∷◌}
use native.Mathlib.Omega.{arith}
use lib.Dec.{leb, ltb, eqb}
use lib.ListN.{length, take, drop}
use lib.Seq.{length-take-le}
use borrow.Author.Tests.{leb-false, eqb-true}
use Rattle.rules.specs.Walk.{pick}
use Rattle.rules.specs.declared.Explanation.{Explanation}
use Rattle.rules.specs.declared.Refusal.{Refusal}
use Rattle.rules.specs.declared.Refusal.TheVariants.{Rules, Numbers, Past, Busy, Full, NoPlace}
use Rattle.rules.specs.Limits.{places, latest}
use Rattle.desk.specs.declared.Job.{Job}
use Rattle.std.specs.Prelude.{Option, None, Some, Ok, Err}
use Rattle.desk.specs.declared.Done.TheVariants.{Opened}
use Rattle.desk.specs.Table.{job, x_of, filled, flexes, outcome, right_x, table_ok, desk_ok, open_of, ends, Outcome}
use Rattle.desk.specs.Places.{early, shift}
use Rattle.desk.specs.Reason.{explanation_of}
use Rattle.desk.specs.Request.{kept, busy, find, taking, numbers_ok, request_of, Place, At, Nowhere, dropping}
use Rattle.rules.proofs.Tests.{and_parts}
use Rattle.desk.proofs.Check.{x_of-le, numbers-small, Listed, listed_of, desk_table, desk_right}
use Rattle.desk.proofs.Afresh.{AllNear}
use Rattle.desk.proofs.Chain.{Chain, chain_of, chain_kept, right_kept}
use Rattle.desk.proofs.Spot.{found_spot, spot_near, spot_inside, spot_due}
use Rattle.desk.proofs.Rules.{not_busy}
use Rattle.desk_records.proofs.Moved.{moved_none}
use Rattle.desk_records.specs.Folds.{fold}
use Rattle.desk_records.specs.Sums.{sum_to}
use Rattle.desk_engine.proofs.Shifted.{Lows, near_within}
use Rattle.desk_engine.proofs.Dropped.{gone_by, gone-kept}
use Rattle.desk_engine.proofs.Fitted.{behind_of}
use Rattle.desk_engine.proofs.Tables.{open_table, drop_table, take_table}
use Rattle.desk.specs.declared.Desk.{Desk}
use Rattle.desk.specs.declared.Ask.{Ask}
use Rattle.desk.specs.declared.Ask.TheVariants.{Open, Request}
use Rattle.desk_reading.specs.declared.searching.Searching.{Searching}
use Rattle.desk_reading.specs.declared.scan.Scan.{Scan}
use Rattle.desk_engine.specs.declared.effect.Effect.{Effect}
use Rattle.desk_engine.specs.Beginning.{opens, searching_from, opening_of, asking_of, scan_for}
use Rattle.desk_reading.specs.Reading.{scan_on, scanned, check_end, search_step, search_end, behind_by, explanation_by}
use Rattle.desk_engine.specs.Deciding.{open_effect, keep_effect, drop_effect, take_effect, request_effect, effect_of, applied}
use Rattle.desk.specs.Call.{call_of, Leaves}
use Rattle.desk_engine.proofs.Checked.{opening_law, asking_law, seen_law}
use Rattle.desk_engine.proofs.Explained.{explained_is}
use Rattle.desk_engine.proofs.Searched.{Searched, searched}

lows_of : (e : ℕ) (js : List Job) → Chain e js → right_x js ≡ true → Lows js
lows_of e [] g r = tt
lows_of e (j ∷ js) g r =
    let x : j.flex ≡ x_of j js = eqb-true _ _ (and_parts _ (right_x js) r).0 in
    (record { last = omega (arith, x, x_of-le j js, g.1.in_time, g.1.low) }, lows_of (ends j) js g.2 (and_parts (eqb j.flex (x_of j js)) _ r).1)

lows_drop : (i : ℕ) (js : List Job) → Lows js → Lows (drop i js)
lows_drop zero js h = h
lows_drop (suc i) [] h = tt
lows_drop (suc i) (j ∷ js) h = lows_drop i js h.1

-- what an effect leaves is the outcome's
abbrev pub Made : List Job → Effect → Outcome → Type 0
Made l p o = Leaves o p.answer p.desk (applied p l)

keeps_made : (k : Desk) (l : List Job) (why : Refusal) → Made l (keep_effect why k) (outcome l k.count k.clock (Err why))
unfolding applied
keeps_made k l why = (refl, refl, moved_none l)

-- a job moved no further than its x starts as late as before
behind-shift : (e : ℕ) (js : List Job) → AllNear e js → behind_of (shift e js) ≡ behind_of js
behind-shift e [] n = refl
behind-shift e (j ∷ js) n = omega (arith, n.0)

-- AN OPENING

module _ (k : Desk) (l : List Job) where
  by_table : (v : Bool) → table_ok k.count l ≡ v
      → Made l (pick v (open_effect k) (keep_effect Rules k)) (pick v (outcome (filled (flexes (take k.count l))) k.count 0 (Ok Opened)) (outcome l k.count k.clock (Err Rules)))
  unfolding applied
  by_table true h = (refl, refl, open_table k.count l h)
  by_table false h = keeps_made k l Rules

  by_read : (r : Option Scan) → check_end true r ≡ table_ok k.count l → Made l (effect_of k true r) (open_of k.clock k.count l)
  unfolding effect_of open_of
  by_read None h = rw (← h) (keeps_made k l Rules)
  by_read (Some s) h = rw h (by_table (table_ok k.count l) refl)

  -- answer, record and table at exit are those of the desk's opening
  open_law : Made l (effect_of k true (scanned true (opening_of k (length l)) l)) (open_of k.clock k.count l)
  unfolding scanned
  open_law = by_read (fold (scan_on true) (opening_of k (length l)) l) (opening_law k l)

-- A REQUEST

module _ (k : Desk) (l : List Job) (t c d : ℕ) where
  abbrev n : ℕ
  n = k.count

  abbrev js : List Job
  js = take n l

  abbrev ks : List Job
  ks = kept t js

  abbrev e : Searching
  e = fold search_step (searching_from t c d) js

  -- what is left where refusals 13 to 15 don't hold
  abbrev left : Bool → Outcome
  left v = pick v (dropping t ks Busy) (pick (leb places (length ks)) (dropping t ks Full) (taking t c d ks (find t c d ks)))

  -- on a sound table
  module _ (sixty : length l ≡ places) (few : n ≤ places) (chain : Chain 0 js) where
    length_js : length js ≡ n
    length_js = length-take-le n l (omega (arith, sixty, few))

    so : Searched t c d 0 js e
    so = searched t c d js 0 0 chain (omega (arith, length_js, few))

    gone_e : e.gone ≡ gone_by t js
    gone_e = omega (arith, so.gone_is)

    rest_e : n - e.gone ≡ length ks
    rest_e = omega (arith, gone_e, gone-kept t js, length_js)

    busy_e : e.busy ≡ busy t ks
    busy_e = so.busy_is

    chain_ks : Chain 0 ks
    chain_ks = chain_kept t 0 js chain

    spot_e : pick (search_end e) (At e.place e.start) Nowhere ≡ find t c d ks
    spot_e = rw (so.asks.1, so.asks.2) so.spot_is

    drop_made : (why : Refusal) → Made l (drop_effect why k e) (dropping t ks why)
    unfolding applied
    drop_made why = (refl, rw (so.asks.0, rest_e), rw (rest_e, gone_e) (drop_table t l n sixty chain))

    module _ (right : right_x js ≡ true) (hd : d ≤ latest) where
      take_made : find t c d ks ≡ At e.place e.start → busy t ks ≡ false → length ks < places → Made l (take_effect k e) (taking t c d ks (At e.place e.start))
      unfolding applied
      take_made hf hb hk =
          let same = so.asks in
          let order = not_busy t ks hb chain_ks in
          let right-ks = right_kept t 0 js chain right in
          let spot = found_spot t c d ks order e.place e.start hf in
          let near : AllNear (e.start + c) (drop e.place ks) = spot_near c d t e.place ks e.start order right-ks spot in
          let lows : Lows ks = lows_of 0 ks chain_ks right-ks in
          let inside : e.place ≤ length ks = spot_inside c d t e.place ks e.start spot in
          let one : sum_to (length ks) 1 ≡ length ks + 1 = omega (arith, hk) in
          let puts : sum_to (length ks - e.place) 1 ≡ suc (length ks - e.place) = omega (arith, hk) in
          let waits : sum_to e.place 1 ≡ e.place + 1 = omega (arith, hk, inside) in
          let behind-e : behind_by e ≡ behind_of (shift (e.start + c) (drop e.place ks)) = so.behind_is ∙ sym (behind-shift (e.start + c) (drop e.place ks) near) in (
            refl,
            rw (same.0, rest_e, one),
            rw (same.1, same.2, rest_e, gone_e, puts, waits, behind-e)
                (take_table t l n sixty chain (job e.start c d 0) e.place (omega (arith, spot_due c d t e.place ks e.start spot, hd)) (omega (arith, hd)) inside hk
                (near_within (e.start + c) (drop e.place ks) (lows_drop e.place ks lows) near)),
          )

      -- what 18 tells
      told_e : busy t ks ≡ false → find t c d ks ≡ Nowhere → explanation_by e ≡ explanation_of t d ks
      told_e hb hf =
          let last = so.last hf in
          let first : 0 + early d ks ≡ early d ks = omega arith in
          rw (so.asks.2, last.best_is, last.start_is, last.place_is, first)
          (explained_is t d ks (not_busy t ks hb chain_ks) (right_kept t 0 js chain right) (omega (arith, gone-kept t js, length_js, few)))

      abbrev found : Bool → Effect
      found v = pick v (take_effect k e) (drop_effect (NoPlace (explanation_by e)) k e)

      abbrev rests : Bool → Bool → Effect
      rests b f = pick b (drop_effect Busy k e) (pick f (drop_effect Full k e) (found (search_end e)))

      by_found : (v : Bool) → search_end e ≡ v → busy t ks ≡ false → length ks < places → Made l (found v) (taking t c d ks (find t c d ks))
      by_found true h hb hk =
          let hf : At e.place e.start ≡ find t c d ks = rw h at spot_e in
          subst (λ (p : Place). Made l (take_effect k e) (taking t c d ks p)) hf (take_made (sym hf) hb hk)
      by_found false h hb hk =
          let hf : Nowhere ≡ find t c d ks = rw h at spot_e in
          subst (λ (p : Place). Made l (drop_effect (NoPlace (explanation_by e)) k e) (taking t c d ks p)) hf
          (subst (λ (why : Explanation). Made l (drop_effect (NoPlace (explanation_by e)) k e) (dropping t ks (NoPlace why))) (told_e hb (sym hf)) (drop_made (NoPlace (explanation_by e))))

      by_full : (v : Bool) → leb places (length ks) ≡ v → busy t ks ≡ false
          → Made l (pick v (drop_effect Full k e) (found (search_end e))) (pick v (dropping t ks Full) (taking t c d ks (find t c d ks)))
      by_full true h hb = drop_made Full
      by_full false h hb = by_found (search_end e) refl hb (leb-false places (length ks) h)

      by_busy : (v : Bool) → busy t ks ≡ v → Made l (rests v (leb places (length ks))) (left v)
      by_busy true h = drop_made Busy
      by_busy false h = by_full (leb places (length ks)) refl h

      after_made : Made l (rests e.busy (leb places (n - e.gone))) (left (busy t ks))
      after_made = subst (λ (v : Bool). Made l (rests v (leb places (n - e.gone))) (left (busy t ks))) (sym busy_e)
          (subst (λ (m : ℕ). Made l (rests (busy t ks) (leb places m)) (left (busy t ks))) (sym rest_e) (by_busy (busy t ks) refl))

  -- on a sound table: 14, 15, and what is left
  module _ (h₁ : desk_ok k.clock n l ≡ true) where
    w : Listed n l
    w = listed_of n l (desk_table k.clock n l h₁)

    chain_js : Chain 0 js
    chain_js = chain_of 0 js w.order

    abbrev asked_of : Bool → Bool → Effect
    asked_of v₂ v₃ = pick v₂ (pick v₃ (keep_effect Past k) (pick e.busy (drop_effect Busy k e) (pick (leb places (n - e.gone)) (drop_effect Full k e) (pick (search_end e) (take_effect k e) (drop_effect (NoPlace (explanation_by e)) k e))))) (keep_effect Numbers k)

    go : (v₂ v₃ : Bool) → numbers_ok t c d ≡ v₂ → ltb t k.clock ≡ v₃
        → Made l (asked_of v₂ v₃) (pick (not v₂) (outcome l n k.clock (Err Numbers)) (pick v₃ (outcome l n k.clock (Err Past)) (left (busy t ks))))
    go false v₃ h₂ h₃ = keeps_made k l Numbers
    go true true h₂ h₃ = keeps_made k l Past
    go true false h₂ h₃ = after_made w.whole w.few chain_js (desk_right k.clock n l h₁) (numbers-small t c d h₂).1

    request_made : Made l (request_effect k e) (pick (not (numbers_ok t c d)) (outcome l n k.clock (Err Numbers)) (pick (ltb t k.clock) (outcome l n k.clock (Err Past)) (left (busy t ks))))
    request_made =
        let same = (so w.whole w.few chain_js).asks in
        let is : request_effect k e ≡ asked_of (numbers_ok t c d) (ltb t k.clock) = rw (same.0, same.1, same.2) in
        subst (λ (p : Effect). Made l p (pick (not (numbers_ok t c d)) (outcome l n k.clock (Err Numbers)) (pick (ltb t k.clock) (outcome l n k.clock (Err Past)) (left (busy t ks))))) (sym is)
        (go (numbers_ok t c d) (ltb t k.clock) refl refl)

  abbrev asked : Bool → Outcome
  asked v = pick (not v) (outcome l n k.clock (Err Rules))
      (pick (not (numbers_ok t c d)) (outcome l n k.clock (Err Numbers)) (pick (ltb t k.clock) (outcome l n k.clock (Err Past)) (left (busy t ks))))

  by_seen : (v : Bool) (s : Scan) → desk_ok k.clock n l ≡ v → (desk_ok k.clock n l ≡ true → s.searching ≡ e)
      → Made l (pick v (request_effect k s.searching) (keep_effect Rules k)) (asked v)
  by_seen false s h f = keeps_made k l Rules
  by_seen true s h f = subst (λ (q : Searching). Made l (request_effect k q) (asked true)) (sym (f h)) (request_made h)

  by_asked : (r : Option Scan) → check_end false r ≡ desk_ok k.clock n l → (desk_ok k.clock n l ≡ true → (s : Scan) → r ≡ Some s → s.searching ≡ e)
      → Made l (effect_of k false r) (request_of k.clock n l t c d)
  unfolding effect_of request_of
  by_asked None h f = rw (← h) (keeps_made k l Rules)
  by_asked (Some s) h f = rw h (by_seen (desk_ok k.clock n l) s refl (λ g. f g s refl))

  -- answer, record and table at exit are those of the desk's request
  request_law : Made l (effect_of k false (scanned false (asking_of k (length l) t c d) l)) (request_of k.clock n l t c d)
  unfolding scanned
  request_law = by_asked (fold (scan_on false) (asking_of k (length l) t c d) l) (asking_law k l t c d) (seen_law k l t c d)

-- what a call leaves
pub call_law : (k : Desk) (l : List Job) (ask : Ask) → Made l (effect_of k (opens ask) (scanned (opens ask) (scan_for k (length l) ask) l)) (call_of k.clock k.count l ask)
call_law k l Open = open_law k l
call_law k l (Request q) = request_law k l q.time q.budget q.deadline
