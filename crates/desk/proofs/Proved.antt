-- Each statement of specs/Theorems.antt, proved. Assumes nothing.
use Prim.Native.Nat.{ℕ, zero, suc, ◌<◌}
use mathlib.Core.Path.{◌≡◌, refl, ap, ◌∙◌}
use mathlib.Core.Bool.{Bool, true, false}
use mathlib.Core.List.{List, [], ◌∷◌}
use native.Mathlib.Omega.{arith}
use lib.ListN.{length, take, get_or}
use lib.Seq.{get_or-take}
use Rattle.rules.specs.Walk.{pick}
use Rattle.rules.specs.declared.Refusal.{Refusal}
use Rattle.rules.specs.declared.Refusal.TheVariants.{Rules, Numbers, Past, Busy, Full, NoPlace}
use Rattle.desk.specs.declared.Job.{Job}
use Rattle.std.specs.Prelude.{Result, Ok, Err}
use Rattle.desk.specs.declared.Done.{Done}
use Rattle.desk.specs.declared.Done.TheVariants.{Opened, Taken}
use Rattle.desk.specs.Table.{none, filled, outcome, flexes, table_ok, open_of, Outcome}
use Rattle.desk.specs.Reason.{explanation_of}
use Rattle.desk.specs.Request.{kept, find, dropping, taking, drops, request_of, Place, At, Nowhere}
use Rattle.desk.specs.Story.{Entry, no_entry, entries, Story, begin}
use Rattle.desk.specs.Theorems.{OpenLeaves, Refuses, OpenTells, InEveryStory, Matches, Proved}
use Rattle.desk.proofs.Rules.{Sound, request_sound, request_not_13, opened_table, open_is, open_sound, open_good, open_sound_unless, sound-unless, afresh}
use Rattle.desk.proofs.Entries.{Follow, entries_open}
use Rattle.desk.proofs.Promise.{take-filled, table, Kept, kept-good, kept-many, kept-begin, promise}
use Rattle.desk.proofs.Exactly.{taken_start, taken_exactly, no_place_exactly}
use Rattle.desk.proofs.Busy.{busy_ends}
use Rattle.desk.proofs.Moves.{room_never_too_far, never_too_far}
use Rattle.desk.proofs.Reason.{no_place_roomiest, no_place_nowhere, no_place_breaks, no_place_room_taken}
use Rattle.desk.proofs.Ready.{Comes, at_13, at_14, at_15, at_16, at_17, through, comes, lower_exactly}
use Rattle.desk.proofs.Still.{refused-same, taken-joined, still, all-since_opening, still_ever, length-entries}

open_leaves : OpenLeaves
unfolding open_of
open_leaves clock n l r e = cases (table_ok n l) e where
  cases : (b : Bool) → (pick b (outcome (filled (flexes (take n l))) n 0 (Ok Opened)) (outcome l n clock (Err Rules))).answer ≡ Err r
      → pick b (outcome (filled (flexes (take n l))) n 0 (Ok Opened)) (outcome l n clock (Err Rules)) ≡ outcome l n clock (Err Rules)
  cases true w = absurd (let z : ◌≡◌ {A = ℕ} 0 1 = cc in omega arith)
  cases false w = refl

module _ (clock n : ℕ) (l : List Job) (t c d : ℕ) where
  -- a call that leaves what its refusal says, and the time where it takes the job in
  record Right (o : Outcome) : Type 0 where
    refused : (r : Refusal) → o.answer ≡ Err r
        → o ≡ pick (drops r) (dropping t (kept t (take n l)) r) (outcome l n clock (Err r))
    taken : (i s : ℕ) → o.answer ≡ Ok (Taken i s) → o.clock ≡ t

  same-refused : (q r : Refusal) → ◌≡◌ {A = Result Done Refusal} (Err q) (Err r) → q ≡ r
  same-refused q r e = cc

  stays : (q : Refusal) → drops q ≡ false → Right (outcome l n clock (Err q))
  stays q h =
      record {
        refused = λ r e. let z = same-refused q r e in rw (← z, h);
        taken = λ i s e. absurd (let z : ◌≡◌ {A = ℕ} 0 1 = cc in omega arith);
      }

  drops-all : (q : Refusal) → drops q ≡ true → Right (dropping t (kept t (take n l)) q)
  drops-all q h =
      record {
        refused = λ r e. let z = same-refused q r e in rw (← z, h);
        taken = λ i s e. refl;
      }

  right_placed : (p : Place) → Right (taking t c d (kept t (take n l)) p)
  right_placed Nowhere = drops-all (NoPlace (explanation_of t d (kept t (take n l)))) refl
  right_placed (At i s) = record { refused = λ r e. absurd (let z : ◌≡◌ {A = ℕ} 0 1 = cc in omega arith); taken = λ k u e. refl }

  right_by_lem : (o : Outcome) → Comes clock n l t c d o → Right o
  right_by_lem o (at_13 e) = stays Rules refl
  right_by_lem o (at_14 e) = stays Numbers refl
  right_by_lem o (at_15 e) = stays Past refl
  right_by_lem o (at_16 late small e) = drops-all Busy refl
  right_by_lem o (at_17 late small e) = drops-all Full refl
  right_by_lem o (through w) = right_placed (find t c d (kept t (take n l)))

  right_request : Right (request_of clock n l t c d)
  right_request = right_by_lem (request_of clock n l t c d) (comes clock n l t c d)

open_tells : OpenTells
open_tells clock n l e =
    let ok = opened_table clock n l e in
    let left : take (open_of clock n l).count (open_of clock n l).jobs ≡ flexes (take n l) =
    rw (open_is clock n l ok) (take-filled (flexes (take n l)) n (open_good clock n l ok).count) in
    rw left (entries_open (take n l))

kept_story : InEveryStory (λ h. Kept h)
kept_story clock n l e qs = kept-many qs (begin clock n l) (kept-begin clock n l (opened_table clock n l e))

entry_at : (gs : List Entry) (js : List Job) (k : ℕ) → Follow gs js → k < length js
    → ((get_or (entries gs js) k no_entry).start ≡ (get_or js k none).start)
    × ((get_or (entries gs js) k no_entry).budget ≡ (get_or js k none).budget)
    × ((get_or (entries gs js) k no_entry).deadline ≡ (get_or js k none).deadline)
entry_at [] [] k f h = absurd (omega arith)
entry_at [] (j ∷ js) k f h = absurd f
entry_at (g ∷ gs) [] k f h = absurd f
entry_at (g ∷ gs) (j ∷ js) zero f h = (refl, f.0.budget, f.0.due)
entry_at (g ∷ gs) (j ∷ js) (suc k) f h = entry_at gs js k f.1 (omega arith)

tells : (h : Story) → Kept h → Matches h
tells h w =
    let long = (kept-good h w).count in
    let at : (k : ℕ) → k < h.desk.count → get_or (table h) k none ≡ get_or h.desk.jobs k none =
    λ k g. get_or-take h.desk.count h.desk.jobs k none g in
    record {
      all = length-entries h.listed (table h) w.follow ∙ long;
      start = λ k g. (entry_at h.listed (table h) k w.follow (omega (arith, long))).0 ∙ ap (λ (j : Job). j.start) (at k g);
      budget = λ k g. (entry_at h.listed (table h) k w.follow (omega (arith, long))).1 ∙ ap (λ (j : Job). j.budget) (at k g);
      deadline = λ k g. (entry_at h.listed (table h) k w.follow (omega (arith, long))).2 ∙ ap (λ (j : Job). j.deadline) (at k g);
    }

not-rules : (clock n : ℕ) (l : List Job) → Sound clock n l → (t c d : ℕ) → Refuses (request_of clock n l t c d) 13 → ⊥
not-rules clock n l s t c d = request_not_13 clock n l t c d s

pub proved : Proved
proved =
    record {
      open_leaves = open_leaves;
      request_leaves = λ clock n l t c d. (right_request clock n l t c d).refused;
      taken_sets_clock = λ clock n l t c d. (right_request clock n l t c d).taken;
      open_keeps_rules = λ clock n l e. (open_sound clock n l (opened_table clock n l e)).test;
      request_keeps_rules = λ clock n l t c d h. (request_sound clock n l t c d (record { test = h })).test;
      not_rules_after_open = λ clock n l h. not-rules _ _ _ (open_sound_unless clock n l h);
      not_rules_after_request = λ clock n l t c d h. not-rules _ _ _ (request_sound clock n l t c d (sound-unless clock n l t c d h));
      open_afresh = λ clock n l h. afresh (open_of clock n l) (open_sound_unless clock n l h);
      request_afresh = λ clock n l t c d h. afresh (request_of clock n l t c d) (request_sound clock n l t c d (sound-unless clock n l t c d h));
      room_never_too_far = room_never_too_far;
      never_too_far = never_too_far;
      lower_exactly = lower_exactly;
      taken_exactly = taken_exactly;
      no_place_exactly = no_place_exactly;
      taken_start = taken_start;
      no_place_roomiest = no_place_roomiest;
      no_place_nowhere = no_place_nowhere;
      no_place_breaks = no_place_breaks;
      no_place_room_taken = no_place_room_taken;
      busy_ends = busy_ends;
      open_tells = open_tells;
      story_tells = λ clock n l e qs. tells _ (kept_story clock n l e qs);
      keeps_promise = λ clock n l e qs. promise clock n l (opened_table clock n l e) qs;
      loses_none = λ clock n l e qs. all-since_opening clock n l (opened_table clock n l e) qs;
      refused_moves_none = λ clock n l e qs q. refused-same _ q (kept_story clock n l e qs);
      taken_joins = λ clock n l e qs q. taken-joined _ q (kept_story clock n l e qs);
      started_stays = λ clock n l e qs q. still _ q (kept_story clock n l e qs);
      started_stays_ever = λ clock n l e qs more. still_ever more _ (kept_story clock n l e qs);
    }
