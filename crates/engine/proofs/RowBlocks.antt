-- The laws behind a block of R and B commands: one command more, the rows alone, and the job's loop behind the block.
use Prim.Native.Nat.{ℕ, suc, ◌+◌, ◌-◌, ◌≤◌, ◌<◌}
use native.Mathlib.Omega.{arith}
use native.Mathlib.Decide.{dec_lt}
use mathlib.Core.Path.{◌≡◌, refl, ap, ◌∙◌, subst, subst⁻¹}
use mathlib.Core.List.{List, ◌++◌}
use borrow.Author.Tests.{lt-ltb, le-ltb}
use lib.ListN.{get_or, length, drop}
use Rattle.std.specs.Prelude.{Option, None}
use Rattle.model.specs.Commands as model
use Rattle.model.specs.Commands.{rows_of_b}
use Rattle.model.specs.Candidates.{Candidate}
use Rattle.incidence.specs.Stored.{BlocksAt}
use Rattle.problem.specs.declared.Settings.{Settings}
use Rattle.problem.specs.declared.TableRows.{TableRows}
use Rattle.problem.specs.declared.Candidates.{Candidates}
use Rattle.problem.specs.declared.Problem.{Problem}
use Rattle.problem.specs.declared.matrix.Matrix.{Matrix}
use Rattle.problem.specs.Problems.{row_put, rows_put, Reached}
use Rattle.eight_rows.specs.Rows.{EightAt}
use Rattle.engine.specs.RowBlocks.{RowAt, ReadsRows, Reading, place_behind, record_of, ReadsInto}
use Rattle.engine.proofs.Running.{x, Going}
use Rattle.engine.proofs.RowCommands.{Sets, row_sets, eight_sets, rows_go}

-- ---- the block

pub reading_none : {p : Problem} {job : List ℕ} {at : ℕ} → model.begun ≤ p.place → p.place ≤ model.among_rows → at ≤ length job → Reading p job at p at
reading_none {p} {job} {at} b m l = record {
  reads = record {
    forward = omega arith;
    within = l;
    in_problem = λ q h v most free e. record { problem = q; most = most; enough = e; holds = h; valid = v; cands = refl; number = refl; offset = refl; written = refl; left = refl };
  };
  behind_i = b;
  in_rows = m;
}

-- the record at this place
pub reading_reached : {p now : Problem} {job : List ℕ} {at i : ℕ} → Reached p → Reading p job at now i → Reached now
reading_reached {job = job} {at} r b =
    let g = b.reads.in_problem r.problem r.holds r.valid (suc (length job)) 0 (omega arith) in
    record { problem = g.problem; holds = g.holds; valid = g.valid }

-- one block behind another
pub reading_then : {p q r : Problem} {job : List ℕ} {at mid end : ℕ} → Reading p job at q mid → Reading q job mid r end → Reading p job at r end
reading_then {job = job} b d = record {
  reads = record {
    forward = omega (arith, b.reads.forward, d.reads.forward);
    within = d.reads.within;
    in_problem = λ o h v most free l.
        let g = b.reads.in_problem o h v most free l in
        let f = d.reads.in_problem g.problem g.holds g.valid g.most free g.enough in
        record {
          problem = f.problem;
          most = f.most;
          enough = f.enough;
          holds = f.holds;
          valid = f.valid;
          cands = f.cands ∙ g.cands;
          number = g.number ∙ f.number;
          offset = g.offset ∙ f.offset;
          written = g.written ∙ f.written;
          left = g.left ∙ f.left;
        };
  };
  behind_i = d.behind_i;
  in_rows = d.in_rows;
}

pub reading_next : {p now next : Problem} {job : List ℕ} {at i bytes : ℕ} → Reading p job at now i → Sets now job i next bytes → next.place ≡ model.among_rows → Reading p job at next (i + bytes)
reading_next b a e = record {
  reads = record {
    forward = omega (arith, b.reads.forward);
    within = a.room;
    in_problem = λ q h v most free l. rows_go a (b.reads.in_problem q h v most free l);
  };
  behind_i = omega (arith, e);
  in_rows = omega (arith, e);
}

-- ---- the rows alone

behind_none : (at place : ℕ) → place_behind at at place ≡ place
behind_none at place = rw (le-ltb at at (omega arith))

behind_some : (at behind place : ℕ) → at < behind → place_behind at behind place ≡ model.among_rows
behind_some at behind place l = rw (lt-ltb at behind l)

behind_then : (at mid end place : ℕ) → at ≤ mid → mid ≤ end → place_behind mid end (place_behind at mid place) ≡ place_behind at end place
behind_then at mid end place l m = go (dec_lt at mid) (dec_lt mid end)
  where
    go : Dec (at < mid) → Dec (mid < end) → place_behind mid end (place_behind at mid place) ≡ place_behind at end place
    go d (yes y) = rw (lt-ltb mid end y, lt-ltb at end (omega arith))
    go (yes x) (no y) = rw (le-ltb mid end (omega arith), lt-ltb at mid x, lt-ltb at end (omega arith))
    go (no x) (no y) = rw (le-ltb mid end (omega arith), le-ltb at mid (omega arith), le-ltb at end (omega arith))

pub reads_none : {s : Settings} {job : List ℕ} {at : ℕ} {rows : TableRows} → at ≤ length job → ReadsInto s job at rows at rows
reads_none {s} {job} {at} {rows} l = record {
  forward = omega arith;
  within = l;
  reading = λ place cs r b m. subst⁻¹ (λ (k : ℕ). Reading (record_of place s rows cs) job at (record_of k s rows cs) at) (behind_none at place) (reading_none b m l);
}

module _ {s : Settings} {job : List ℕ} {at i : ℕ} {rows now : TableRows} (d : ReadsInto s job at rows i now) where
  -- one command more
  reads_next : {after : TableRows} {bytes : ℕ} → 0 < bytes → i + bytes ≤ length job
      → ((place : ℕ) (cs : Candidates) → let p = record_of place s now cs in Reached p → model.begun ≤ place → place ≤ model.among_rows → Sets p job i (record_of model.among_rows s after cs) bytes)
      → ReadsInto s job at rows (i + bytes) after
  reads_next {after} {bytes} l room f = record {
    forward = omega (arith, d.forward);
    within = room;
    reading = λ place cs r b m.
        let g = d.reading place cs r b m in
        subst⁻¹ (λ (k : ℕ). Reading (record_of place s rows cs) job at (record_of k s after cs) (i + bytes)) (behind_some at (i + bytes) place (omega (arith, d.forward)))
        (reading_next g (f (place_behind at i place) cs (reading_reached r g) g.behind_i g.in_rows) refl);
  }

  pub reads_one : {v : ℕ} → RowAt s now.given job i → v ≡ get_or job (i + 1) 0 → ReadsInto s job at rows (i + 4) (row_put now v (get_or job (i + 2) 0) (get_or job (i + 3) 0))
  reads_one a e = reads_next (omega arith) a.room (λ place cs r b m. row_sets (record_of place s now cs) r b m e a)

  pub reads_eight : {after : TableRows} → EightAt s now.given job i → after ≡ rows_put now (rows_of_b (drop (i + 1) job)) → ReadsInto s job at rows (i + 18) after
  reads_eight a e = subst⁻¹ (λ (after : TableRows). ReadsInto s job at rows (i + 18) after) e
      (reads_next (omega arith) a.room (λ place cs r b m. eight_sets (record_of place s now cs) r b m a))

  -- and those behind them
  pub reads_then : {after : TableRows} {end : ℕ} → ReadsInto s job i now end after → ReadsInto s job at rows end after
  reads_then {after} {end} f = record {
    forward = omega (arith, d.forward, f.forward);
    within = f.within;
    reading = λ place cs r b m.
        let g = d.reading place cs r b m in
        subst (λ (k : ℕ). Reading (record_of place s rows cs) job at (record_of k s after cs) end) (behind_then at i end place d.forward f.forward)
        (reading_then g (f.reading (place_behind at i place) cs (reading_reached r g) g.behind_i g.in_rows));
  }

-- in the record, right behind I or W
pub reads_record : {p : Problem} {job : List ℕ} {at end : ℕ} {after : TableRows} {place : ℕ} → Reached p → model.begun ≤ p.place
    → p.place ≤ model.in_prices → ReadsInto p.settings job at p.rows end after
    → place ≡ place_behind at end p.place → ReadsRows p job at (record_of place p.settings after p.candidates) end
reads_record {p} {job} {at} {end} {after} {place} r b m d e =
    let g = d.reading p.place p.candidates r b (omega (arith, m)) in
    subst⁻¹ (λ (k : ℕ). ReadsRows p job at (record_of k p.settings after p.candidates) end) e g.reads

-- ---- the job's loop behind the block

pub going_behind : {job old answers held : List ℕ} {p next : Problem} {rows : List ℕ} {kept : Option Matrix} {at behind done : ℕ}
    → Going job old answers held p rows kept at done → ReadsRows p job at next behind → Going job old answers held next rows None behind done
going_behind {old = old} {held = held} w b =
    let g = b.in_problem w.problem w.holds w.valid w.fuel (length old - length w.out) w.enough in
    record {
      fuel = g.most;
      problem = g.problem;
      out = w.out;
      enough = g.enough;
      within = b.within;
      holds = g.holds;
      blocks = subst⁻¹ (λ (cs : List Candidate). BlocksAt cs held) g.cands w.blocks;
      valid = g.valid;
      counted = w.counted;
      bytes = w.bytes;
      fits = w.fits;
      size = w.size;
      few = tt;
      matrix = tt;
      number = w.number ∙ g.number;
      offset = w.offset ∙ g.offset;
      written = w.written ∙ ap (λ (bs : List ℕ). w.out ++ bs) g.written;
      left = w.left ∙ g.left;
    }
