pub mod InLayout
