-- The reading pass against the table's rules: what `check_end` says at the end of the pass is 13's own test, and on a
-- table that keeps the rules every listed job was looked at by the search. Assumes nothing.
use Prim.Native.Nat.{ℕ, zero, suc, ◌+◌, ◌-◌, min}
use mathlib.Core.Path.{◌≡◌, refl, sym, ap, ◌∙◌}
use mathlib.Core.Bool.{Bool, true, false, true≢false, ◌&&◌, ◌||◌}
use mathlib.Core.List.{List, [], ◌∷◌}
use native.Mathlib.Omega.{arith}
use lib.Dec.{leb, eqb}
use lib.ListN.{length, take, drop}
use borrow.Author.Tests.{eq-eqb}
use Rattle.rules.specs.Walk.{pick}
use Rattle.desk.specs.declared.Job.{Job}
use Rattle.rules.specs.Limits.{places, latest}
use Rattle.desk.specs.Table.{none, job_ok, ordered, zeros, all_zeros, x_of, right_x, table_ok, desk_ok, ends}
use Rattle.desk_records.specs.Folds.{fold}
use Rattle.desk_engine.proofs.Counts.{some_more, one_less}
use Rattle.desk.specs.declared.Desk.{Desk}
use Rattle.desk_reading.specs.declared.checking.Checking.{Checking}
use Rattle.desk_reading.specs.declared.searching.Searching.{Searching}
use Rattle.desk_reading.specs.declared.scan.Scan.{Scan}
use Rattle.desk_reading.specs.Reading.{follows, scan_step, scan_on, check_end, search_step}
use Rattle.desk_reading.proofs.Broken.{none_stays}
use Rattle.desk_engine.specs.Beginning.{sizes_ok, searching_none, searching_from, opening_of, asking_of}
use Rattle.std.specs.Prelude.{Option, None, Some}

-- a broken rule stays broken
fails : (o : Bool) (l : List Job) → check_end o (fold (scan_on o) None l) ≡ false
fails o l = rw (none_stays o l)

-- ---- the rules, as the pass tests them

abbrev chk : Job → Checking
chk p = record { end = ends p; own = x_of p []; flex = p.flex }

abbrev sc : ℕ → Job → Searching → Scan
sc m p q = record { left = m; checking = chk p; searching = q }

-- each x is the rule's, or is not looked at
abbrev right_by : Bool → List Job → Bool
right_by o [] = true
right_by o (j ∷ js) = (eqb j.flex (x_of j js) || o) && right_by o js

or_false : (b : Bool) → b || false ≡ b
or_false true = refl
or_false false = refl

or_true : (b : Bool) → b || true ≡ true
or_true true = refl
or_true false = refl

right_looked : (js : List Job) → right_by false js ≡ right_x js
right_looked [] = refl
right_looked (j ∷ js) = rw (or_false (eqb j.flex (x_of j js)), right_looked js)

right_any : (js : List Job) → right_by true js ≡ true
right_any [] = refl
right_any (j ∷ js) = rw (or_true (eqb j.flex (x_of j js))) (right_any js)

-- what the jobs ks after p must hold
abbrev after : Bool → Job → List Job → Bool
after o p ks = (eqb p.flex (x_of p ks) || o) && (ordered (ends p) ks && right_by o ks)

-- and with them the places behind
abbrev rule : Bool → Job → ℕ → List Job → Bool
rule o p m l = after o p (take m l) && all_zeros (drop m l)

swap_past : (n r a : Bool) → r && (n && a) ≡ n && (r && a)
swap_past true r a = refl
swap_past false true a = refl
swap_past false false a = refl

last_only : (e : Bool) → e ≡ (e && (true && true)) && true
last_only true = refl
last_only false = refl

swap_two : (e o r a : Bool) → (e && (o && r)) && a ≡ (o && (e && r)) && a
swap_two true o r a = refl
swap_two false true r a = refl
swap_two false false r a = refl

swap_listed : (k p q e o r a : Bool) → (q && ((p && (k && o)) && (e && r))) && a ≡ (k && (p && q)) && ((e && (o && r)) && a)
swap_listed true true true e o r a = sym (swap_two e o r a)
swap_listed true true false e o r a = refl
swap_listed true false true e o r a = refl
swap_listed true false false e o r a = refl
swap_listed false true true e o r a = refl
swap_listed false true false e o r a = refl
swap_listed false false true e o r a = refl
swap_listed false false false e o r a = refl

at_once : (x a c : ℕ) → x - a - c ≡ x - (a + c)
at_once x a c = omega arith

rule_listed : (o : Bool) (p j : Job) (m : ℕ) (l : List Job) → rule o p (suc m) (j ∷ l) ≡ follows o (chk p) j && rule o j m l
rule_listed o p j m l =
    rw (at_once (j.flex + j.start) p.start p.budget)
    (swap_listed (job_ok j) (leb (ends p) j.start) (eqb p.flex (min (p.deadline - p.start - p.budget) (j.flex + j.start - (p.start + p.budget))) || o) (eqb j.flex (x_of j (take m l)) || o) (ordered (ends j) (take m l)) (right_by o (take m l)) (all_zeros (drop m l)))

module _ (o : Bool) where
  -- what was searched
  abbrev Seen : Searching → List Job → Option Scan → Type 0
  Seen q js r = (s : Scan) → r ≡ Some s → s.searching ≡ fold search_step q js

  -- what the pass finds, on from a job p
  record Looked (p : Job) (m : ℕ) (q : Searching) (l : List Job) (r : Option Scan) : Type 0 where
    pub right : check_end o r ≡ rule o p m l
    pub seen : rule o p m l ≡ true → Seen q (take m l) r

  listed : (p j : Job) (m : ℕ) (q : Searching) → follows o (chk p) j ≡ true → scan_step o (sc (suc m) p q) j ≡ Some (sc m j (search_step q j))
  listed p j m q e = rw (some_more m, one_less m, e)

  unlisted : (p j : Job) (m : ℕ) (q : Searching) → follows o (chk p) j ≡ false → scan_step o (sc (suc m) p q) j ≡ None
  unlisted p j m q e = rw (some_more m, e)

  the_same : (m : ℕ) (p : Job) (q : Searching) (s : Scan) → ◌≡◌ {A = Option Scan} (Some (sc m p q)) (Some s) → s.searching ≡ q
  the_same m p q s e = let z : sc m p q ≡ s = cc in rw (← z)

  look : (l : List Job) (m : ℕ) (p : Job) (q : Searching) → Looked p m q l (fold (scan_on o) (Some (sc m p q)) l)
  unfolding fold
  look [] zero p q = record { right = last_only (eqb p.flex (x_of p []) || o); seen = λ _ s e. the_same 0 p q s e }
  look [] (suc m) p q = record { right = last_only (eqb p.flex (x_of p []) || o); seen = λ _ s e. the_same (suc m) p q s e }
  look (j ∷ l) zero p q = by_zeros (zeros j) refl (look l zero p q) where
    by_zeros : (v : Bool) → zeros j ≡ v → Looked p 0 q l (fold (scan_on o) (Some (sc 0 p q)) l) → Looked p 0 q (j ∷ l) (fold (scan_on o) (scan_step o (sc 0 p q) j) l)
    by_zeros true e more =
        let is : rule o p 0 (j ∷ l) ≡ rule o p 0 l = swap_past (zeros j) (after o p []) (all_zeros l) ∙ rw e in
        rw e (record { right = more.right ∙ sym is; seen = λ g. more.seen (sym is ∙ g) })
    by_zeros false e more =
        let no : rule o p 0 (j ∷ l) ≡ false = swap_past (zeros j) (after o p []) (all_zeros l) ∙ rw e in
        rw e (record { right = fails o l ∙ sym no; seen = λ g. absurd (true≢false (sym g ∙ no)) })
  look (j ∷ l) (suc m) p q = by_follows (follows o (chk p) j) refl (look l m j (search_step q j)) where
    by_follows : (v : Bool) → follows o (chk p) j ≡ v → Looked j m (search_step q j) l (fold (scan_on o) (Some (sc m j (search_step q j))) l)
        → Looked p (suc m) q (j ∷ l) (fold (scan_on o) (scan_step o (sc (suc m) p q) j) l)
    by_follows true e more =
        let is : rule o p (suc m) (j ∷ l) ≡ rule o j m l = rule_listed o p j m l ∙ rw e in
        rw (listed p j m q e) (record { right = more.right ∙ sym is; seen = λ g. more.seen (sym is ∙ g) })
    by_follows false e more =
        let no : rule o p (suc m) (j ∷ l) ≡ false = rule_listed o p j m l ∙ rw e in
        rw (unlisted p j m q e) (record { right = fails o l ∙ sym no; seen = λ g. absurd (true≢false (sym g ∙ no)) })

  -- in front of all no job stands
  none_x : (js : List Job) → eqb 0 (x_of none js) ≡ true
  none_x [] = refl
  none_x (j ∷ js) = eq-eqb 0 (x_of none (j ∷ js)) (omega arith)

  first_rule : (m : ℕ) (l : List Job) → rule o none m l ≡ (ordered 0 (take m l) && right_by o (take m l)) && all_zeros (drop m l)
  first_rule m l = rw (none_x (take m l))

  -- with the sizes and the clock told by b
  looked : (b : Bool) (m : ℕ) (q : Searching) (l : List Job)
      → check_end o (fold (scan_on o) (pick b (Some (sc m none q)) None) l) ≡ b && ((ordered 0 (take m l) && right_by o (take m l)) && all_zeros (drop m l))
  looked true m q l = (look l m none q).right ∙ first_rule m l
  looked false m q l = fails o l

  seen : (b : Bool) (m : ℕ) (q : Searching) (l : List Job) → check_end o (fold (scan_on o) (pick b (Some (sc m none q)) None) l) ≡ true
      → Seen q (take m l) (fold (scan_on o) (pick b (Some (sc m none q)) None) l)
  seen true m q l g = let at = look l m none q in at.seen (sym at.right ∙ g)
  seen false m q l g = absurd (true≢false (sym g ∙ fails o l))

swap_table : (e n o a : Bool) → (e && n) && ((o && true) && a) ≡ e && (n && (o && a))
swap_table false n o a = refl
swap_table true false o a = refl
swap_table true true true a = refl
swap_table true true false a = refl

swap_desk : (k e n o r a : Bool) → (k && (e && n)) && ((o && r) && a) ≡ k && ((e && (n && (o && a))) && r)
swap_desk false e n o r a = refl
swap_desk true false n o r a = refl
swap_desk true true false o r a = refl
swap_desk true true true false r a = refl
swap_desk true true true true true true = refl
swap_desk true true true true true false = refl
swap_desk true true true true false true = refl
swap_desk true true true true false false = refl

module _ (k : Desk) (l : List Job) where
  abbrev n : ℕ
  n = k.count

  -- at an opening: the table's rules
  pub opening_law : check_end true (fold (scan_on true) (opening_of k (length l)) l) ≡ table_ok n l
  opening_law =
      looked true (sizes_ok k (length l)) n searching_none l
      ∙ ap (λ (r : Bool). sizes_ok k (length l) && ((ordered 0 (take n l) && r) && all_zeros (drop n l))) (right_any (take n l))
      ∙ swap_table (eqb (length l) places) (leb n places) (ordered 0 (take n l)) (all_zeros (drop n l))

  module _ (t c d : ℕ) where
    abbrev q : Searching
    q = searching_from t c d

    abbrev sized : Bool
    sized = leb k.clock latest && sizes_ok k (length l)

    -- at a request: the clock and each x too
    pub asking_law : check_end false (fold (scan_on false) (asking_of k (length l) t c d) l) ≡ desk_ok k.clock n l
    asking_law =
        looked false sized n q l
        ∙ ap (λ (r : Bool). sized && ((ordered 0 (take n l) && r) && all_zeros (drop n l))) (right_looked (take n l))
        ∙ swap_desk (leb k.clock latest) (eqb (length l) places) (leb n places) (ordered 0 (take n l)) (right_x (take n l)) (all_zeros (drop n l))

    -- where the rules are kept, the search has seen the listed jobs
    pub seen_law : desk_ok k.clock n l ≡ true → (s : Scan) → fold (scan_on false) (asking_of k (length l) t c d) l ≡ Some s → s.searching ≡ fold search_step q (take n l)
    seen_law h = seen false sized n q l (asking_law ∙ h)
