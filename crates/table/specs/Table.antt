-- Document 01, "Jobs and replies": the table of commands, a row for each code, and that of document 02's ask 3. Definitions only.
use Rattle.std.specs.Prelude.{eqb, ltb, Float, length, get_or, ℕ, ◌+◌, ◌*◌, Bool, List, [], ◌∷◌, Result, Ok, Err}
use Rattle.coo3d.specs.LonLats.{is_longitude, is_latitude}
use Rattle.coo3d.specs.Points.{from_sph_coo, vect_of}
use Rattle.coo3d.specs.declared.point.Coo3D.{Coo3D}
use Rattle.crossing.specs.Parallels.{intersect_parallel}
use Rattle.two_arcs.specs.TwoArcs.{edge, intersect_arcs}
use Rattle.two_arcs.specs.declared.edge.Edge.{Edge}
use Rattle.coo3d.specs.declared.vect3.Vect3.{Vect3}
use Rattle.two_arcs.specs.declared.meeting.NoMeeting.{NoMeeting}
use Rattle.two_arcs.specs.declared.meeting.NoMeeting.TheVariants.{Nowhere, NoCandidate}
use Rattle.words.specs.Words.{float_at}
use Rattle.answers.specs.Answers.{crossed_of}
use Rattle.answers.specs.declared.answer.Answer.TheVariants.{NoRoot}
use Rattle.special_points_finder.specs.Arcs.{arc_plan}
use Rattle.special_points_finder.specs.Cones.{cone_plan_in_eqr, cone_plan_in_pc}
use Rattle.splits.specs.Splits.{Split, split_of}
use Rattle.table.specs.States.{needs_settings, precision_in, keeps, sets_precision, sets_allowance}
use Rattle.table.specs.declared.refusal.Refusal.TheVariants as refusal
use Rattle.table.specs.Rows.{Row, no_answer, five_slots, kind_steps_z, kind_lon_lat, Work, refused, accepted, slots, cone, crossing, is_height, is_radius, is_lon_mod_half_pi, is_flag, any_float, any_byte, needs_nothing}

-- "The ends in codes 03 and 06 are made by `from_sph_coo`" ("Points")
abbrev pub first_end : List ℕ → Coo3D
first_end b = from_sph_coo (float_at b 0) (float_at b 1)

abbrev pub second_end : List ℕ → Coo3D
second_end b = from_sph_coo (float_at b 2) (float_at b 3)

-- "Code 07 takes two arcs as eight floats" (ask 3)
abbrev pub first_arc : List ℕ → Edge
first_arc b = edge (vect_of (first_end b)) (vect_of (second_end b))

abbrev pub second_arc : List ℕ → Edge
second_arc b =
    edge (vect_of (from_sph_coo (float_at b 4) (float_at b 5))) (vect_of (from_sph_coo (float_at b 6) (float_at b 7)))

-- 10: an arc that can't be split
unfoldable pub arc_work : Split → Float → Work
arc_work (Ok pieces) precision = slots (arc_plan pieces precision)
arc_work (Err unsplit) precision = refused refusal.Unsplit

-- "kind 3, its longitude and latitude as in code 06; if neither does, kind 5 and zeros"; 12 where there is no candidate (ask 3)
unfoldable pub meeting_work : Result Vect3 NoMeeting → Work
meeting_work (Ok v) = crossing (crossed_of (Ok v))
meeting_work (Err Nowhere) = crossing NoRoot
meeting_work (Err NoCandidate) = refused refusal.NoCandidate

-- 00 | end | no reply at all. A list of commands ends before it (`parse` in jobs), so no turn is taken at this row: its widths alone count
abbrev pub end : Row
end =
    record {
      floats = [];
      flags = [];
      answer = no_answer;
      needs = needs_nothing;
      work = λ g b. accepted;
      change = λ b. keeps;
    }

-- 01 | precision, f64 | none
unfoldable pub precision : Row
precision =
    record {
      floats = any_float ∷ [];
      flags = [];
      answer = no_answer;
      needs = needs_nothing;
      work = λ g b. accepted;
      change = λ b. sets_precision (float_at b 0);
    }

-- 02 | allowance, one byte | none
unfoldable pub allowance : Row
allowance =
    record {
      floats = [];
      flags = any_byte ∷ [];
      answer = no_answer;
      needs = needs_nothing;
      work = λ g b. accepted;
      change = λ b. sets_allowance (get_or b 0 0);
    }

-- 03 | arc: lon1, lat1, lon2, lat2 | five slots
unfoldable pub arc : Row
arc =
    record {
      floats = is_longitude ∷ is_latitude ∷ is_longitude ∷ is_latitude ∷ [];
      flags = [];
      answer = five_slots;
      needs = needs_settings;
      work = λ g b. arc_work (split_of (first_end b) (second_end b)) (precision_in g);
      change = λ b. keeps;
    }

-- 04 | equatorial cone: z, z0, radius; north byte | kind, steps, z
unfoldable pub cone_in_eqr : Row
cone_in_eqr =
    record {
      floats = is_height ∷ is_height ∷ is_radius ∷ [];
      flags = is_flag ∷ [];
      answer = kind_steps_z;
      needs = needs_settings;
      work = λ g b. cone (cone_plan_in_eqr (float_at b 0) (float_at b 1) (float_at b 2) (eqb (get_or b 24 0) 1) (precision_in g));
      change = λ b. keeps;
    }

-- 05 | polar cone: z, lon mod π/2, z0, radius; east byte, north byte | kind, steps, z
unfoldable pub cone_in_pc : Row
cone_in_pc =
    record {
      floats = is_height ∷ is_lon_mod_half_pi ∷ is_height ∷ is_radius ∷ [];
      flags = is_flag ∷ is_flag ∷ [];
      answer = kind_steps_z;
      needs = needs_settings;
      work =
          λ g b. cone
          (cone_plan_in_pc (float_at b 0) (float_at b 1) (float_at b 2) (float_at b 3) (eqb (get_or b 32 0) 1) (eqb (get_or b 33 0) 1) (precision_in g));
      change = λ b. keeps;
    }

-- 06 | parallel: lon1, lat1, lon2, lat2, z | kind, lon, lat
unfoldable pub parallel : Row
parallel =
    record {
      floats = is_longitude ∷ is_latitude ∷ is_longitude ∷ is_latitude ∷ is_height ∷ [];
      flags = [];
      answer = kind_lon_lat;
      needs = needs_nothing;
      work = λ g b. crossing (crossed_of (intersect_parallel (vect_of (first_end b)) (vect_of (second_end b)) (float_at b 4)));
      change = λ b. keeps;
    }

-- 07 | two arcs: lon1, lat1, lon2, lat2, lon3, lat3, lon4, lat4 | kind, lon, lat (ask 3)
unfoldable pub two_arcs : Row
two_arcs =
    record {
      floats = is_longitude ∷ is_latitude ∷ is_longitude ∷ is_latitude ∷ is_longitude ∷ is_latitude ∷ is_longitude ∷ is_latitude ∷ [];
      flags = [];
      answer = kind_lon_lat;
      needs = needs_nothing;
      work = λ g b. meeting_work (intersect_arcs (first_arc b) (second_arc b));
      change = λ b. keeps;
    }

-- by the code
abbrev pub table : List Row
table = end ∷ precision ∷ allowance ∷ arc ∷ cone_in_eqr ∷ cone_in_pc ∷ parallel ∷ two_arcs ∷ []

unfoldable pub row_of : ℕ → Row
row_of code = get_or table code end

abbrev pub in_table : ℕ → Bool
in_table code = ltb code (length table)

-- the bytes of a code's operands, and those of its reply after code and status
unfoldable pub width_in : Row → ℕ
width_in r = 8 * length r.floats + length r.flags

unfoldable pub operand_width : ℕ → ℕ
operand_width code = width_in (row_of code)

unfoldable pub answer_width : ℕ → ℕ
answer_width code = (row_of code).answer.width
