-- The loops of the checks, laws of `loop`: one set for all four loops of the code. Assumes nothing.
use Rattle.std.specs.Prelude.{ℕ, suc, ◌+◌, ◌-◌, ◌≤◌, ◌<◌, ◌≡◌, Bool, true, false, List, Ok, Err, IsErrAnd}
use Rattle.std.proofs.Math.Path.{refl, sym}
use Rattle.std.proofs.Common.{◌∙◌, true≢false, arith}
use Rattle.rows.specs.Words.{no_word}
use Rattle.reader.specs.Nodes.{Nodes, none, node, count}
use Rattle.type_nodes.specs.Shapes.{NoNode}
use Rattle.type_nodes.specs.Nodes.{empty, next, shape, node_identifier}
use Rattle.type_nodes.specs.Moves.{Test, Move, stop, on, inside}
use Rattle.type_nodes.specs.Stands.{Stands, NodesStand, Of, below}
use Rattle.type_nodes.specs.Laws.Siblings.{first, nothing_left}
use Rattle.structure.specs.Said.{Said, after, both, plain}
use Rattle.structure.specs.Checks.{checked, test, follow, loop}
use Rattle.structure.specs.Allowance.{Verdict, verdict_within}
use Rattle.structure.specs.VerdictSays.{VerdictSays, Passes}
use Rattle.structure.specs.Laws.Limits.{limited_entry, limited_none, limited_yes, limited_no, limited_both, on_holds}
use Rattle.structure.specs.Laws.Walks.{Walk, Turn, walk_start, walk_ends, walk_on, walk_stops, walk_holds, after_it, below_it, walk_further}
use Rattle.structure.specs.declared.moves.Fault.{Fault}
use Rattle.structure.specs.declared.moves.Fault.TheVariants.{Fails, Spent}

-- ---- the entry to a check: one step

module _ {tree kinds : List ℕ} {from to allowed : ℕ} {whole : Nodes → Said} where
  pub entry_spent : (body : Nodes → Said) → ((x : Nodes) → whole x ≡ after 1 (body x)) → allowed ≡ 0 → VerdictSays tree kinds from to allowed whole (Err Spent)
  entry_spent body en e = record { says = λ x s. sym (rw (e, en x) (limited_none _)) }

  pub entry : (body : Nodes → Said) → ((x : Nodes) → whole x ≡ after 1 (body x)) → 0 < allowed
      → (x : Nodes) → Stands tree kinds from to x → verdict_within allowed (whole x) ≡ verdict_within (allowed - 1) (body x)
  entry body en h x s = rw (en x) (limited_entry allowed _ h)

  -- A test without steps comes first.
  module _ (head : Nodes → Bool) (body : Nodes → Said) {d : Bool} (en : (x : Nodes) → whole x ≡ after 1 (both (plain (head x)) (λ _. body x)))
      (h : 0 < allowed) (hd : Of tree kinds from to (λ x. d ≡ head x)) where
    headed : (x : Nodes) → Stands tree kinds from to x → verdict_within allowed (whole x) ≡ on_holds (verdict_within (allowed - 1) (plain d)) (λ l. verdict_within l (body x))
    headed x s = rw (en x, hd x s) (limited_entry allowed _ h ∙ limited_both (allowed - 1) _ _)

    pub head_fails : d ≡ false → VerdictSays tree kinds from to allowed whole (Err (Fails (allowed - 1)))
    unfolding on_holds
    head_fails e = record { says = λ x s. sym (headed x s ∙ rw (e, limited_no (allowed - 1))) }

    pub head_holds : d ≡ true → (x : Nodes) → Stands tree kinds from to x → verdict_within allowed (whole x) ≡ verdict_within (allowed - 1) (body x)
    unfolding on_holds
    head_holds e x s = headed x s ∙ rw (e, limited_yes (allowed - 1))

-- ---- one turn of `loop`

module _ (lang : ℕ) (kinds words : List ℕ) (S : Type 0) (move : (left lw : ℕ) → Nodes → S → Move S) (done : S → Bool) where
  abbrev going : Nodes → (left lw : ℕ) → S → Said
  going = loop lang kinds words (checked lang kinds words) S move done

  pub turn_end : (x : Nodes) (l w : ℕ) (st : S) → x ≡ none → going x l w st ≡ plain (done st)
  unfolding loop
  turn_end x l w st e = rw e

  turn_move : (x : Nodes) (l w : ℕ) (st : S) → empty x ≡ false
      → going x l w st ≡ follow lang kinds words (checked lang kinds words) S move done (move l w x st) (below x) (going (next x) (shape kinds x) (node_identifier kinds words x))
  unfolding loop empty below next
  turn_move none l w st h = absurd (true≢false h)
  turn_move (node k i b x) l w st h = refl

  module _ (x : Nodes) (l w : ℕ) (st : S) (full : empty x ≡ false) where
    turn_stop : (r : Bool) → move l w x st ≡ stop r → going x l w st ≡ plain r
    unfolding follow
    turn_stop r e = turn_move x l w st full ∙ rw e

    pub turn_on : (st' : S) → move l w x st ≡ on st' → going x l w st ≡ going (next x) (shape kinds x) (node_identifier kinds words x) st'
    unfolding follow
    turn_on st' e = turn_move x l w st full ∙ rw e

    turn_inside : (t : Test) (st' : S) → move l w x st ≡ inside t st'
        → going x l w st ≡ both (test lang kinds words (checked lang kinds words) t (below x)) (λ _. going (next x) (shape kinds x) (node_identifier kinds words x) st')
    unfolding follow
    turn_inside t st' e = turn_move x l w st full ∙ rw e

-- ---- a loop of the code: `knows` is what it keeps of the shape and the word number of the node before

pub record Run (lang : ℕ) (kinds words : List ℕ) (S : Type 0) (move : (left lw : ℕ) → Nodes → S → Move S) (done : S → Bool) (whole : Nodes → Said)
    (knows : (left lw : ℕ) → Type 0) (tree : List ℕ) (from to allowed left : ℕ) (st : S) (at : ℕ) : Type 0 where
  pub left_shape : ℕ
  pub left_word : ℕ
  pub known : knows left_shape left_word
  pub walk : Walk tree kinds whole from to allowed left (λ y. loop lang kinds words (checked lang kinds words) S move done y left_shape left_word st) at

module _ {lang : ℕ} {kinds words : List ℕ} {S : Type 0} {move : (left lw : ℕ) → Nodes → S → Move S} {done : S → Bool} {whole : Nodes → Said}
    {tree : List ℕ} {from to allowed : ℕ} where
  pub run_start : {knows : (left lw : ℕ) → Type 0} {left : ℕ} {st : S} → knows NoNode no_word → NodesStand tree kinds from to
      → ((x : Nodes) → Stands tree kinds from to x → verdict_within allowed (whole x) ≡ verdict_within left (loop lang kinds words (checked lang kinds words) S move done x NoNode no_word st))
      → Run lang kinds words S move done whole knows tree from to allowed left st from
  run_start k r e = record { left_shape = NoNode; left_word = no_word; known = k; walk = walk_start _ r e }

  module _ {knows : (left lw : ℕ) → Type 0} {left : ℕ} {st : S} {at : ℕ} (lp : Run lang kinds words S move done whole knows tree from to allowed left st at) where
    pub run_end : {v : Verdict} → to ≤ at → v ≡ verdict_within left (plain (done st)) → VerdictSays tree kinds from to allowed whole v
    run_end h e = walk_ends lp.walk _ (turn_end lang kinds words S move done lp.walk.rest lp.left_shape lp.left_word st (nothing_left lp.walk.stands h)) e

    module _ (h : at < to) where
      full_here : empty lp.walk.rest ≡ false
      full_here = (first lp.walk.stands h).full

      pub run_stop : {r : Bool} {v : Verdict} → move lp.left_shape lp.left_word lp.walk.rest st ≡ stop r → v ≡ verdict_within left (plain r)
          → VerdictSays tree kinds from to allowed whole v
      run_stop {r} q e = walk_ends lp.walk _ (turn_stop lang kinds words S move done lp.walk.rest lp.left_shape lp.left_word st full_here r q) e

      module _ {e : ℕ} (en : Of tree kinds at to (λ x. e ≡ suc (at + count (below x)))) where
        pub run_on : {st' : S} {knows' : (left lw : ℕ) → Type 0} → move lp.left_shape lp.left_word lp.walk.rest st ≡ on st'
            → knows' (shape kinds lp.walk.rest) (node_identifier kinds words lp.walk.rest)
            → Run lang kinds words S move done whole knows' tree from to allowed left st' e
        run_on {st'} q k = record {
          left_shape = shape kinds lp.walk.rest;
          left_word = node_identifier kinds words lp.walk.rest;
          known = k;
          walk = walk_on lp.walk _ (turn_on lang kinds words S move done lp.walk.rest lp.left_shape lp.left_word st full_here st' q)
              (after_it lp.walk h en) (omega (arith, walk_further lp.walk h en));
        }

        module _ {t : Test} {st' : S} {v : Verdict} (q : move lp.left_shape lp.left_word lp.walk.rest st ≡ inside t st')
            (sv : Passes lang tree kinds words (at + 1) e left t v) where
          turned : Turn tree kinds (λ y. loop lang kinds words (checked lang kinds words) S move done y lp.left_shape lp.left_word st)
              (test lang kinds words (checked lang kinds words) t)
              (λ y. loop lang kinds words (checked lang kinds words) S move done y (shape kinds lp.walk.rest) (node_identifier kinds words lp.walk.rest) st')
              to lp.walk.rest at (at + 1) e e
          turned = record {
            element = below lp.walk.rest;
            element_stands = below_it lp.walk h en;
            after = next lp.walk.rest;
            after_stands = after_it lp.walk h en;
            further = omega (arith, walk_further lp.walk h en);
            is = turn_inside lang kinds words S move done lp.walk.rest lp.left_shape lp.left_word st full_here t st' q;
          }

          pub run_stops : {r : Verdict} {fault : Fault} → v ≡ Err fault → IsErrAnd r (λ y. y ≡ fault) → VerdictSays tree kinds from to allowed whole r
          run_stops f o = walk_stops lp.walk turned sv f o

          pub run_inside : {m : ℕ} {knows' : (left lw : ℕ) → Type 0} → v ≡ Ok m
              → knows' (shape kinds lp.walk.rest) (node_identifier kinds words lp.walk.rest)
              → Run lang kinds words S move done whole knows' tree from to allowed m st' e
          run_inside f k = record {
            left_shape = shape kinds lp.walk.rest;
            left_word = node_identifier kinds words lp.walk.rest;
            known = k;
            walk = walk_holds lp.walk turned sv f;
          }
