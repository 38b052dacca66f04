pub mod ImagingLaws
